-- `formulas::rest` meets its contract. The loop's invariant: whatever lists and values the two tables are of, if the answers of
-- the first nodes stood in the array where the loop began, those of the first i nodes stand in it now, and last is the newest of them.
--
use mathlib.Core.Path.{◌≡◌}
use Prim.Native.Nat.{◌≤◌}
use lib.ListN.{length}
use Rattle.bits.specs.Packed.{tab}
use Rattle.policy.specs.Policy.{Lists}
use Rattle.policy.specs.Rules.{nodes_of}
use Rattle.formulas.specs.Value.{operand, size_of_operand}
use Rattle.formulas.specs.Parts.{Said}
use Rattle.formulas.specs.declared.Holders.{Holders}
use Rattle.formulas.proofs.rest.Given as goal

abbrev pub invariant-loop-i : goal.invariant-loop-i
invariant-loop-i l =
    (l.i ≤ l.i-end) × (l.i-end ≡ l.n) × (length l.before ≡ 256)
    × ((c : Lists) (v : Holders) → l.values ≡ tab (operand c v) 0 256 → l.sizes ≡ tab (size_of_operand c) 0 256 → Said c v (nodes_of l.nodes l.f l.n) l.initial.i l.initial.before l.initial.last → Said c v (nodes_of l.nodes l.f l.n) l.i l.before l.last)
