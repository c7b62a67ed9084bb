-- `sides::right_of` meets its contract. The loop's invariant: right is the width of the attributes from j on.
use mathlib.Core.Path.{◌≡◌}
use Prim.Native.Nat.{◌+◌, ◌*◌, ◌-◌, ◌≤◌}
use lib.ListN.{drop}
use Rattle.policy.specs.Policy.{width}
use Rattle.policy.specs.Rules.{attrs_of}
use Rattle.sides.proofs.right_of.Given as goal

abbrev pub invariant-loop-j : goal.invariant-loop-j
invariant-loop-j l =
    (l.k + 1 ≤ l.j) × (l.right ≤ 255 * (l.class.count - l.j)) × (l.right ≡ width (drop l.j (attrs_of l.class)))
