-- `Pen::write_way` meets its contract. The loop's invariant: the first j of the rows that it goes over are those of the way.
use Rattle.std.proofs.Common.{◌≡◌, ◌+◌, ◌-◌, arith}
use Rattle.search.specs.Searched.{depth_at}
use Rattle.session_rows.proofs.Laws.{no_way, way-written, way-kept}
use Rattle.session_rows.proofs.Pen.write_way.Goals as goal

pub returns-then-rows-at-clause-rows_after : goal.returns-then-rows-at-clause-rows_after
returns-then-rows-at-clause-rows_after c =
    let a = c.args in
    let e : c.depth_at.result ≡ depth_at a.q.now a.pos = c.depth_at.ensures in
    no_way a.q.now a.pos a.first a.u a.n a.self.now a.rows.now c.requires.0 (c.depth_at.result + 1 - a.first) (omega arith) (omega arith)

pub returns-clause-rows_after : goal.returns-clause-rows_after
returns-clause-rows_after c =
    let a = c.args in
    let l = c.loop-j in
    let e : c.depth_at.result ≡ depth_at a.q.now a.pos = c.depth_at.ensures in
    way-written a.q.now a.pos a.first a.u a.n a.self.now a.rows.now c.requires.0 _ (omega arith) _ l.row-items (omega arith) l.invariant.0 (omega arith)
    (λ j h. l.invariant.1 j (omega arith))

pub returns-clause-wrote : goal.returns-clause-wrote
returns-clause-wrote c =
    let a = c.args in
    let l = c.loop-j in
    let e : c.depth_at.result ≡ depth_at a.q.now a.pos = c.depth_at.ensures in
    way-kept a.q.now a.pos a.first a.u a.n a.self.now a.rows.now c.requires.0 _ (omega arith) _ l.row-items (omega arith) l.invariant.0 (omega arith)
