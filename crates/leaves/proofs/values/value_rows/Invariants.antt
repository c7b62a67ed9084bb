-- `leaves::values::value_rows` meets its contract. The loop's invariant: the rows are those of the values of the first k bits.
use mathlib.Core.Path.{◌≡◌}
use Prim.Native.Nat.{◌/◌, ◌%◌, ◌^◌}
use Rattle.leaves.specs.Values.{Hot}
use Rattle.leaves.proofs.values.value_rows.Given as goal

abbrev pub invariant-loop-k : goal.invariant-loop-k
invariant-loop-k l =
    (l.k-end ≡ l.f.bits) × Hot (λ v. v / 2 ^ l.f.shift % 2 ^ l.k) (2 ^ l.k) l.hot
