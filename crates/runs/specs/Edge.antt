-- What rules allow, as tests: a new value is in the lists and the formula is true of it. A search goes along these.
-- Assumes nothing.
use Rattle.std.specs.Prelude.{Bool, ◌&&◌, ℕ, ltb}
use Rattle.runs.specs.Model.{Model}

module _ (m : Model) where
  -- user u may open a session with value v
  unfoldable pub opens_with : ℕ → ℕ → Bool
  opens_with u v = ltb u m.users && m.session_value v && m.may_open u v

  -- user u may change a session from value v to value w
  unfoldable pub changes_to : ℕ → ℕ → ℕ → Bool
  changes_to u v w = m.session_value w && m.may_change u v w

  -- a session with value v may make an item with value o
  unfoldable pub makes_with : ℕ → ℕ → Bool
  makes_with v o = m.item_value o && m.may_make v o

  -- a session with value v may change an item from value o to value n
  unfoldable pub modifies_to : ℕ → ℕ → ℕ → Bool
  modifies_to v o n = m.item_value n && m.may_modify v o n

  -- a session with value v has permission p on an item with value o
  unfoldable pub accesses : ℕ → ℕ → ℕ → Bool
  accesses p v o = ltb p m.permissions && m.may_access p v o
