-- The rows that bring a session to a value, along the way by which it was found.
-- Assumes nothing.
use Rattle.std.specs.Prelude.{cond, List, ℕ, ◌+◌, ◌-◌, eqb, get_or}
use Rattle.bits.specs.Packed.{tab}
use Rattle.search.specs.Queue.{nothing}
use Rattle.search.specs.Searched.{value_at, depth_at, place_at}
use Rattle.search.specs.Path.{way_at}
use Rattle.search.specs.declared.queue.Found.{Found}
use Rattle.session_rows.specs.Writing.{Writing, row_of, wrote, stood}

-- from the step `first` on: session n of user u is opened with the start's value (step 0) and changed along the way
unfoldable pub way_rows : Found → ℕ → ℕ → ℕ → ℕ → List ℕ
way_rows q pos first u n =
    tab (λ j. row_of (cond (eqb j 0) 1 3) u n (value_at q (way_at q pos j))) first (depth_at q pos + 1 - first)

-- a new session of user u is brought to value v and stands open
unfoldable pub brought : ℕ → Found → ℕ → ℕ → Writing → Writing
brought room q u v w = stood u v (wrote room (way_rows q (place_at q v - 1) 0 u w.next) w)

module _ (room : ℕ) (users : List Found) (by : List ℕ) where
  -- a session stands open with value v: one that does, or a new one of the user that is named for it
  unfoldable pub helped : ℕ → Writing → Writing
  helped v w =
      let u = get_or by v 0 - 1 in
      cond (eqb (get_or w.number v 0) 0) (brought room (get_or users u nothing) u v w) w

  -- one of user u stands open with value v: one that does, or a new one
  unfoldable pub helped_by : ℕ → ℕ → Writing → Writing
  helped_by u v w =
      cond (eqb (get_or w.number v 0) 0) (brought room (get_or users u nothing) u v w)
      (cond (eqb (get_or w.owner v 0) u) w (brought room (get_or users u nothing) u v w))
