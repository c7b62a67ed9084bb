-- `case_rules::changed_case` meets its contract: each change takes 7 bytes, and the changes left fall.
use mathlib.Core.Path.{◌≡◌}
use Prim.Native.Nat.{◌+◌, ◌*◌, ◌<◌}
use Rattle.case_rules.proofs.changed_case.Given as goal

abbrev pub invariant-loop-k : goal.invariant-loop-k
invariant-loop-k g l = (l.n < 256) × (l.i ≡ l.at + 3 + 7 * l.k)
