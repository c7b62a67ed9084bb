-- Searches of session values: what a user's sessions can have, and what one session can have by its own changes.
-- Assumes nothing.
use Rattle.std.specs.Prelude.{Bool, ◌&&◌, cond, ℕ, zero, suc, ◌+◌, ltb, get_or}
use Rattle.lanes.specs.Lanes.{some_below}
use Rattle.runs.specs.Model.{Model}
use Rattle.runs.specs.Edge.{opens_with, changes_to}
use Rattle.search.specs.Queue.{nothing, pushed, unmet, spread}
use Rattle.search.specs.declared.queue.Found.{Found}

-- from place i, if there is one, while some value of the lists isn't found yet
abbrev pub grown_at : (ℕ → Bool) → (ℕ → ℕ → Bool) → Found → ℕ → Found
grown_at within edge q i = cond (ltb i q.len && some_below (unmet within q) 256) (spread (edge (get_or q.order i 0)) q (i + 1) 0) q

-- from the places below i
unfoldable pub grow_to : (ℕ → Bool) → (ℕ → ℕ → Bool) → Found → ℕ → Found
grow_to within edge q zero = q
grow_to within edge q (suc i) = grown_at within edge (grow_to within edge q i) i

-- sessions of user u
unfoldable pub sessions_found : Model → ℕ → Found
sessions_found m u = grow_to m.session_value (changes_to m u) (spread (opens_with m u) nothing 0 0) 256

-- one session of user u that has value held
unfoldable pub own_found : Model → ℕ → ℕ → Found
own_found m u held = grow_to m.session_value (changes_to m u) (pushed nothing held 0 0) 256
