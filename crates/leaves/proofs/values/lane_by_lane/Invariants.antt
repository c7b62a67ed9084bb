-- `leaves::values::lane_by_lane` meets its contract. The loop's invariant: the lanes below v of which the comparison holds are in r.
use mathlib.Core.Bool.{◌&&◌}
use lib.Dec.{ltb}
use Rattle.lanes.specs.Lanes.{Lanes}
use Rattle.planes.specs.Word.{compared_in}
use Rattle.leaves.proofs.values.lane_by_lane.Given as goal

abbrev pub invariant-loop-v : goal.invariant-loop-v
invariant-loop-v l = Lanes (λ w. ltb w l.v && compared_in l.op l.x l.y w) l.r
