-- `preparing::steps::Level::list` meets its contract. The invariant: the steps of the first k nodes are listed.
use mathlib.Core.Path.{◌≡◌}
use Rattle.prepared.specs.StepList.{listed}
use Rattle.preparing.specs.Levels.{level_steps}
use Rattle.preparing.proofs.steps.Level.list.Given as goal

abbrev pub invariant-loop-k : goal.invariant-loop-k
invariant-loop-k l = listed l.list ≡ level_steps l.self l.nodes l.marks l.layout.room l.k
