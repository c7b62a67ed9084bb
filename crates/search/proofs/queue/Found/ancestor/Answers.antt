-- `Found::ancestor` meets its contract. The loop's invariant: `place` is the place `counter` links before pos.
use Rattle.std.proofs.Common.{arith}
use Rattle.std.proofs.lemmas.Grind.{common_steps}
use Rattle.search.proofs.Paths.{ancestor-none, ancestor-more}
use Rattle.search.proofs.queue.Found.ancestor.Goals as goal

pub loop-init : goal.loop-init
loop-init c = grind (arith, common_steps, ancestor-none)

pub loop-preserved : goal.loop-preserved
loop-preserved c = grind (arith, common_steps, ancestor-more)
