-- `planes::set::member` meets its contract. The loop's invariant: the number is below i, and a member. The measure is what is left of eight.
use mathlib.Core.Bool.{◌&&◌}
use Prim.Native.Nat.{◌-◌, ◌≤◌}
use lib.Dec.{ltb}
use Rattle.bits.specs.Set.{in_set}
use Rattle.planes.specs.Word.{Told, number_in}
use Rattle.planes.proofs.set.member.Given as goal

abbrev pub invariant-loop-i : goal.invariant-loop-i
invariant-loop-i l =
    (l.i ≤ 8) × Told l.planes (λ v. ltb (number_in l.x v) l.i && in_set l.y.size (number_in l.y v) (number_in l.x v)) l.r

abbrev pub decreases-loop-i : goal.decreases-loop-i
decreases-loop-i l = 8 - l.i
