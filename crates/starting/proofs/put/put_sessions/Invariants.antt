-- `starting::put::put_sessions`: the cells that were passed are written.
use Rattle.std.proofs.Common.{◌≡◌, ℕ, ◌<◌, get_or}
use Rattle.policy.specs.Rules.{session_at}
use Rattle.cells.specs.Cell.{open_cell}
use Rattle.starting.proofs.put.put_sessions.Given as goal

abbrev pub invariant-loop-k : goal.invariant-loop-k
invariant-loop-k l = (j : ℕ) → j < l.k → get_or l.front j 0 ≡ open_cell (session_at l.starting j).user (session_at l.starting j).value
