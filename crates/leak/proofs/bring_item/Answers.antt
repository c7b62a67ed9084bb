-- `bring_item` meets its contract. The loop's invariant: the first j steps on the way are written.
use Rattle.std.proofs.Common.{◌≡◌, length, arith}
use Rattle.search.specs.Searched.{depth_at}
use Rattle.session_rows.specs.Writing.{writing_of}
use Rattle.session_rows.proofs.Laws.{kept, kept_on}
use Rattle.leak.proofs.Parts.{item-none, item-goes, item-few}
use Rattle.leak.proofs.bring_item.Goals as goal

pub loop-j-init : goal.loop-j-init
loop-j-init c =
    let a = c.args in
    let s = a.searches.now in
    (kept a.pen.now a.rows.now c.requires.0, item-none (length a.rows.now) s.users.now s.by a.q.now a.pos a.t (writing_of a.pen.now a.rows.now))

pub item_step-requires : goal.item_step-requires
item_step-requires c =
    let a = c.args in
    let s = a.searches.now in
    let l = c.loop-j in
    let e : c.depth_at.result ≡ depth_at a.q.now a.pos = c.depth_at.ensures in
    let n = item-few (length a.rows.now) s.users.now s.by a.q.now a.pos a.t l.j (writing_of a.pen.now a.rows.now) (writing_of l.pen l.rows) l.invariant.1 in
    (l.invariant.0.inside, omega arith)

pub loop-j-preserved : goal.loop-j-preserved
loop-j-preserved c =
    let a = c.args in
    let s = a.searches.now in
    let l = c.loop-j in
    let t = c.item_step.ensures in (
      kept_on l.invariant.0 t.wrote,
      item-goes (length a.rows.now) s.users.now s.by a.q.now a.pos a.t l.j (writing_of a.pen.now a.rows.now) (writing_of l.pen l.rows) _ _ l.invariant.0.long l.invariant.1
          t.rows_after,
    )
