-- The session values that each user may open a session with. The analyser's own vocabulary: nothing here has to be believed.
-- Assumes nothing.
use Rattle.std.specs.Prelude.{◌≡◌, Bool, ◌&&◌, List, [], ℕ, ◌<◌, ltb, length, get_or}
use Rattle.lanes.specs.Lanes.{lane_of, Lanes}
use Rattle.allowed_rows.specs.Basis.{model_by}
use Rattle.allowed_rows.specs.declared.Basis.{Basis}

-- user u may open a session with value v, which is in the lists
abbrev pub opens_in : Basis → ℕ → ℕ → Bool
opens_in b u v = lane_of b.sessions v && (ltb u (model_by b).users && (model_by b).may_open u v)

-- the session values that each of the first 16 users may open a session with
pub record Opened (b : Basis) (rows : List (List ℕ)) : Type 0 where
  pub long : length rows ≡ 16
  pub each : (u : ℕ) → u < 16 → Lanes (opens_in b u) (get_or rows u [])
