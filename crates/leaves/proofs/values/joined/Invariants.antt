-- `leaves::values::joined` meets its contract. The loop's invariant: the lanes whose value is below k and of which the comparison holds.
use mathlib.Core.Bool.{◌&&◌}
use Prim.Native.Nat.{ℕ, ◌/◌, ◌%◌, ◌^◌, ◌≤◌}
use lib.Dec.{ltb}
use Rattle.lanes.specs.Lanes.{Lanes}
use Rattle.sides.specs.declared.Field.{Field}
use Rattle.leaves.specs.Values.{Hot, sided}
use Rattle.leaves.proofs.values.joined.Given as goal

-- the field x of a lane's number
abbrev pub field : Field → ℕ → ℕ
field x v = v / 2 ^ x.shift % 2 ^ x.bits

abbrev pub invariant-loop-k : goal.invariant-loop-k
invariant-loop-k l =
    (l.count ≤ 16) × Hot (field l.x) l.count l.hot × Lanes (λ v. ltb (field l.x v) l.k && sided l.second l.op (field l.x v) l.x.size l.y l.n) l.r
