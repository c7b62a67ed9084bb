-- `write_leak` meets its contract: the item and the actor take fewer new sessions than there are numbers for.
use Rattle.std.proofs.Common.{◌+◌, length, arith}
use Rattle.search.specs.Searched.{depth_at}
use Rattle.session_rows.specs.Writing.{writing_of}
use Rattle.leak.proofs.Parts.{item-few}
use Rattle.leak.proofs.write_leak.Goals as goal

pub ready_actor-requires : goal.ready_actor-requires
ready_actor-requires c =
    let a = c.args in
    let s = a.searches.now in
    let b = c.bring_item in
    let n = item-few (length a.rows.now) s.users.now s.by a.q.now a.pos c.item_of-t.result (depth_at a.q.now a.pos + 1) (writing_of a.pen.now a.rows.now)
    (writing_of b.new.pen b.new.rows) b.ensures.rows_after in
    (b.ensures.wrote.inside, omega arith)
