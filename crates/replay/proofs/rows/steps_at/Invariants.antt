-- `replay::rows::steps_at`: all rows from the lent state come to what those from i on come to from the state now.
use Rattle.std.proofs.Common.{◌≡◌, drop}
use Rattle.policy.specs.Rules.{policy_of}
use Rattle.allowed.specs.Allowed.{model_of}
use Rattle.live.specs.Lent.{lent_as}
use Rattle.replay.specs.Rows.{rows_in}
use Rattle.replay.proofs.rows.steps_at.Given as goal

abbrev pub invariant-loop-i : goal.invariant-loop-i
invariant-loop-i l =
    let m = model_of (policy_of l.rules) in
    rows_in m (lent_as l.initial.sessions l.initial.items l.initial.at) 0 l.rows ≡ rows_in m (lent_as l.sessions l.items l.at) l.i (drop l.i l.rows)
