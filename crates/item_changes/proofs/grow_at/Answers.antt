-- `grow_at` meets its contract: place i is worked off, unless there is none or nothing is left to find.
use Rattle.std.proofs.Common.{ap, true, false, not}
use Rattle.allowed_rows.specs.Basis.{model_by}
use Rattle.search.proofs.Laws.{cond-on, cond-off, more-at}
use Rattle.item_changes.proofs.grow_at.Goals as goal

pub returns-then-is_none-clause-queue_after : goal.returns-then-is_none-clause-queue_after
returns-then-is_none-clause-queue_after c =
    let a = c.args in
    cond-off _ _ _
    (more-at (model_by a.basis.now).item_value a.queue.now a.basis.now.items _ c.requires.in_lists.items c.minus.ensures a.i _ false
    c.if-queue-i.false c.is_none.ensures (ap not c.if-is_none.true))

pub returns-clause-queue_after : goal.returns-clause-queue_after
returns-clause-queue_after c =
    let a = c.args in
    cond-on _ _ _
    (more-at (model_by a.basis.now).item_value a.queue.now a.basis.now.items _ c.requires.in_lists.items c.minus.ensures a.i _ true
    c.if-queue-i.false c.is_none.ensures (ap not c.if-is_none.false))
    c.offered.ensures.queue_after
