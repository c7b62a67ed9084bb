-- `case_rules::all` meets its contract: each record goes on by at least a byte, so there are at most as many as bytes.
use Prim.Native.Nat.{◌≤◌, ◌<◌, ◌-◌}
use Rattle.case_rules.proofs.all.Given as goal

abbrev pub invariant-loop-at : goal.invariant-loop-at
invariant-loop-at g l = (l.k ≤ l.at) × (l.at < 700000)

abbrev pub decreases-loop-at : goal.decreases-loop-at
decreases-loop-at g l = 700000 - l.at
