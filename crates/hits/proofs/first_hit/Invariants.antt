-- `first_hit` meets its contract. The loop's invariant: there is no hit at the places before this one, and the formula stays worked out.
use Rattle.std.proofs.Common.{◌≡◌, ◌<◌, ℕ, get_or}
use Rattle.lanes.specs.Lanes.{lane_of}
use Rattle.allowed_rows.specs.Asked.{AccessReady}
use Rattle.allowed_rows.specs.Basis.{model_by}
use Rattle.hits.proofs.Laws.{hit_on}
use Rattle.hits.proofs.first_hit.Given as goal

abbrev pub invariant-loop-place : goal.invariant-loop-place
invariant-loop-place l =
    AccessReady l.basis l.permission l.plan l.area
    × ((k : ℕ) → k < l.place → hit_on (model_by l.basis) l.permission (lane_of l.among) (get_or l.q.order k 0) ≡ 256)
