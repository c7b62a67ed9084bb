-- `grow` meets its contract. The loop's invariant: the places below i are worked off.
use Rattle.std.proofs.Common.{ap, ◌∙◌}
use Rattle.lanes.specs.Lanes.{lane_of}
use Rattle.allowed_rows.specs.Basis.{model_by}
use Rattle.search.specs.Items.{items_at}
use Rattle.search.specs.declared.queue.Found.{Found}
use Rattle.search.proofs.ItemLaws.{items-start, items-turn}
use Rattle.item_changes.proofs.grow.Goals as goal

pub loop-i-init : goal.loop-i-init
loop-i-init c =
    let a = c.args in
    (c.prepare-plan.ensures.prepared_for, items-start (model_by a.basis.now) (lane_of a.ready) a.queue.now)

pub loop-i-preserved : goal.loop-i-preserved
loop-i-preserved c =
    let a = c.args in
    let l = c.loop-i in
    let g = c.grow_at.ensures in
    let m = model_by a.basis.now in (
      g.modify_prepared_after,
      g.queue_after ∙ ap (λ (q : Found). items_at m (lane_of a.ready) q l.i) l.invariant.1 ∙ items-turn m (lane_of a.ready) a.queue.now l.i,
    )
