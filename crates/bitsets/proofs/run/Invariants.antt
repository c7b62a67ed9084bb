-- `bitsets::run` meets its contract: the rows are those after the steps so far, and the area's length is kept.
use mathlib.Core.Path.{◌≡◌}
use lib.ListN.{length}
use Rattle.bitsets.specs.Rows.{bit_at, Rows}
use Rattle.bitsets.specs.Steps.{ran}
use Rattle.bitsets.proofs.run.Given as goal

abbrev pub invariant-loop-s : goal.invariant-loop-s
invariant-loop-s l = (length l.area ≡ length l.initial.area) × Rows (ran l.steps l.first l.i l.s-index (bit_at l.initial.area)) l.area
