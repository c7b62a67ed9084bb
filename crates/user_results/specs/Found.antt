-- What the searches of all users find together. The analyser's own vocabulary: nothing here has to be believed.
-- Assumes nothing.
use Rattle.std.specs.Prelude.{◌≡◌, Bool, true, not, ◌&&◌, ◌||◌, cond, List, [], ◌∷◌, ℕ, zero, suc, ◌+◌, ◌-◌, ◌≤◌, ◌<◌, ltb, eqb, length, get_or}
use Rattle.lanes.specs.Lanes.{lane_of, some_below}
use Rattle.policy.specs.Policy.{Session}
use Rattle.runs.specs.Model.{Model}
use Rattle.search.specs.Queue.{nothing}
use Rattle.search.specs.Sessions.{sessions_found}
use Rattle.search.specs.declared.queue.Found.{Found}

-- the search of user u, of the searches of all users
abbrev pub user_found : List Found → ℕ → Found
user_found users u = get_or users u nothing

-- the searches of the model's users, of the first 16
pub record UsersFound (m : Model) (users : List Found) : Type 0 where
  pub long : length users ≡ 16
  pub each : (u : ℕ) → u < 16 → user_found users u ≡ cond (ltb u m.users) (sessions_found m u) nothing

-- some user's session can have value v
unfoldable pub any_has : List Found → ℕ → Bool
any_has users v = some_below (λ u. lane_of (user_found users u).seen v) 16

-- a session value for which a user is named
unfoldable pub named : List ℕ → ℕ → Bool
named by v = not (eqb (get_or by v 0) 0)

-- for each session value that some user's session can have a user is named, and for no other
pub record Names (users : List Found) (by : List ℕ) : Type 0 where
  pub long : length by ≡ 256
  pub named-is : (v : ℕ) → v < 256 → named by v ≡ any_has users v
  pub few : (v : ℕ) → v < 256 → get_or by v 0 ≤ 16
  pub has : (v : ℕ) → v < 256 → named by v ≡ true → lane_of (user_found users (get_or by v 0 - 1)).seen v ≡ true

-- who is named for value v after user u is: u where it can have v and none is named yet, or u is asked about
unfoldable pub name_after : List ℕ → List ℕ → ℕ → Bool → ℕ → ℕ
name_after by seen u asked v = cond (lane_of seen v && (eqb (get_or by v 0) 0 || asked)) (u + 1) (get_or by v 0)

-- how many pairs the first n users' searches have found
unfoldable pub found_pairs : List Found → ℕ → ℕ
found_pairs users zero = 0
found_pairs users (suc u) = found_pairs users u + (user_found users u).len

-- every starting session's value was found by its user's search
unfoldable pub all_found : List Found → List Session → Bool
all_found users [] = true
all_found users (t ∷ l) = lane_of (user_found users t.user).seen t.value && all_found users l
