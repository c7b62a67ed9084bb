-- `planes::set::subset` meets its contract. The loop's invariant: the first i members of x, where they are any, are members of y. The measure is
-- what is left of the size.
use mathlib.Core.Path.{◌≡◌}
use mathlib.Core.Bool.{not, ◌||◌}
use Prim.Native.Nat.{◌-◌, ◌≤◌}
use Rattle.bits.specs.Set.{size_of, in_set, all_below}
use Rattle.planes.specs.Word.{Told, number_in}
use Rattle.planes.proofs.set.subset.Given as goal

abbrev pub invariant-loop-i : goal.invariant-loop-i
invariant-loop-i l =
    (l.i ≤ l.i-end) × (l.i-end ≡ size_of l.x.size) × Told l.planes (λ v. all_below (λ a. not (in_set l.x.size (number_in l.x v) a) || in_set l.y.size (number_in l.y v) a) l.i) l.r

abbrev pub decreases-loop-i : goal.decreases-loop-i
decreases-loop-i l = l.i-end - l.i
