-- `formulas::holds` meets its contract. The loop's invariant: the answers of the first i nodes stand in the array, and last is the
-- newest of them.
use mathlib.Core.Path.{◌≡◌}
use Prim.Native.Nat.{◌≤◌}
use lib.ListN.{length}
use Rattle.policy.specs.Rules.{nodes_of, lists_of}
use Rattle.formulas.specs.Parts.{Said}
use Rattle.formulas.proofs.holds.Given as goal

abbrev pub invariant-loop-i : goal.invariant-loop-i
invariant-loop-i l =
    (l.i ≤ l.i-end) × (l.i-end ≡ l.n) × (length l.before ≡ 256) × Said (lists_of l.classes) l.holders (nodes_of l.nodes l.f l.n) l.i l.before l.last
