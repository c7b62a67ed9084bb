-- `all_brought` meets its contract. The loop's invariant: the sessions below k were found.
use Rattle.std.proofs.Common.{◌≡◌, ◌<◌, ℕ, true}
use Rattle.policy.specs.Rules.{session_at}
use Rattle.user_results.proofs.Starts.{brought}
use Rattle.user_results.proofs.all_brought.Given as goal

abbrev pub invariant-loop-k : goal.invariant-loop-k
invariant-loop-k l = (j : ℕ) → j < l.k → brought l.users (session_at l.starting j) ≡ true
