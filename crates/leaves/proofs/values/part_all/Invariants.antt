-- `leaves::values::part_all` meets its contract. The loop's invariant: the first z rows are parted.
use mathlib.Core.Path.{◌≡◌}
use lib.ListN.{length}
use Rattle.lanes.specs.Lanes.{lane_of}
use Rattle.bitsets.specs.Rows.{bit_at, Rows}
use Rattle.leaves.specs.Values.{parted}
use Rattle.leaves.proofs.values.part_all.Given as goal

abbrev pub invariant-loop-z : goal.invariant-loop-z
invariant-loop-z l =
    (length l.hot ≡ length l.initial.hot) × Rows (parted l.n l.z (lane_of l.p) (bit_at l.initial.hot)) l.hot
