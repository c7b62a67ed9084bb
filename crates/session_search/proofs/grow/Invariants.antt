-- `grow` meets its contract. The loop's invariant: the places below i are worked off.
use Rattle.std.proofs.Common.{◌≡◌}
use Rattle.runs.specs.Edge.{changes_to}
use Rattle.allowed_rows.specs.Asked.{ChangeReady}
use Rattle.allowed_rows.specs.Basis.{model_by}
use Rattle.search.specs.Sessions.{grow_to}
use Rattle.session_search.proofs.grow.Given as goal

abbrev pub invariant-loop-i : goal.invariant-loop-i
invariant-loop-i l =
    ChangeReady l.basis l.plan l.u l.area
    × (l.queue ≡ grow_to (model_by l.basis).session_value (changes_to (model_by l.basis) l.u) l.initial.queue l.i)
