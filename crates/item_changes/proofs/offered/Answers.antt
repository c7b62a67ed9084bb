-- `offered` meets its contract. The loop's invariant: of the session values that are no longer to come each has changed the item.
use Rattle.allowed_rows.specs.Basis.{model_by}
use Rattle.item_changes.proofs.Offering.{offering-start, offering-next, offering-end}
use Rattle.item_changes.proofs.offered.Goals as goal

pub loop-v-init : goal.loop-v-init
loop-v-init c =
    let a = c.args in
    rw (c.into_iter-v-iterator.ensures.into_iter_gives, c.rev-v-items.ensures.source, c.members.ensures)
    (c.begin.ensures.ready, offering-start (model_by a.basis.now) a.ready a.queue.now a.i)

pub loop-v-preserved : goal.loop-v-preserved
loop-v-preserved c =
    let a = c.args in
    let l = c.loop-v in
    let o = c.offer.ensures in
    (o.modify_ready_after, offering-next (model_by a.basis.now) a.ready a.queue.now a.i _ l.queue l.invariant.1 _ c.in-Some.v _ c.in-Some.ensures.steps o.queue_after)

pub returns-clause-queue_after : goal.returns-clause-queue_after
returns-clause-queue_after c =
    let a = c.args in
    let l = c.loop-v in
    offering-end (model_by a.basis.now) a.ready a.queue.now a.i _ l.queue l.invariant.1 c.in-None.ensures.steps.0
