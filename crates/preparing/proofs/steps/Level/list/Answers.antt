-- `preparing::steps::Level::list` meets its contract: one node more.
use mathlib.Core.Path.{refl, sym, ap, ◌∙◌}
use Prim.Native.Nat.{◌≤◌}
use native.Mathlib.Omega.{arith}
use lib.ListN.{length}
use Rattle.prepared.specs.Level.{steps_of}
use Rattle.prepared.specs.StepList.{listed}
use Rattle.prepared.proofs.Lists.{steps-few}
use Rattle.preparing.specs.Levels.{level_steps}
use Rattle.preparing.proofs.Boards.{table-few, listed-taken, listed-left}
use Rattle.preparing.proofs.steps.Level.list.Goals as goal
use Rattle.preparing.proofs.steps.Level.list.Goals.{then-chosen, else-chosen}

pub loop-k-init : goal.loop-k-init
unfolding steps_of
loop-k-init c = c.new-list.ensures

pub step-requires : goal.step-requires
step-requires c =
    let y = c.args.layout.now in (
      omega arith,
      omega (arith, c.way_of.ensures.on_boards),
      omega (arith, c.way_of.ensures.on_boards),
      omega (arith, c.table_at.ensures, table-few y.room c.loop-k.k (omega arith) y.room_enough.2),
    )

pub push-requires : goal.push-requires
push-requires c =
    let e = c.loop-k.invariant in
    let few : length (level_steps c.args.self c.args.nodes.now c.args.marks.now c.args.layout.now.room c.loop-k.k) ≤ c.loop-k.k = steps-few _ _ c.loop-k.k in
    omega (arith, ap length e, few)

pub loop-k-preserved : goal.loop-k-preserved
loop-k-preserved c =
    elim c.if-chosen.branch [
      | then-chosen w ↦
          listed-taken _ _ c.loop-k.k (listed c.loop-k.list) _ c.loop-k.invariant w.step.result (rw (← c.at-on.ensures) (sym c.chosen.ensures ∙ w.if-chosen.true))
          (w.step.ensures ∙ rw (w.way_of.ensures.value, c.at-on.ensures, w.table_at.ensures) refl) (ap listed w.list-is ∙ w.push.ensures)
      | else-chosen w ↦ listed-left _ _ c.loop-k.k (listed c.loop-k.list) _ c.loop-k.invariant (rw (← c.at-on.ensures) (sym c.chosen.ensures ∙ w.if-chosen.false)) (ap listed w.list-is)
    ]
