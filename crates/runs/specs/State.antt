-- The state of a run [01:Runs 3]: a list of sessions, each closed or open with a user and value, and a list of items, each a value.
-- A number is a place in its list, from 0.
-- Assumes nothing.
use Rattle.std.specs.Prelude.{List, map, ℕ, get_or}

-- a session (001's subject)
pub data Session : Type 0 where
  closed : Session
  opened : ℕ → ℕ → Session

-- an item (001's object) is its value
abbrev pub Item : Type 0
Item = ℕ

pub record State : Type 0 where
  pub sessions : List Session
  pub items : List Item

-- session number k; a number that was never given is like a closed one
unfoldable pub session_at : State → ℕ → Session
session_at s k = get_or s.sessions k closed

-- the value of item number k
unfoldable pub item_at : State → ℕ → Item
item_at s k = get_or s.items k 0

-- what stands at the start: the starting sessions, all open, and the starting items
unfoldable pub begin : List (ℕ × ℕ) → List Item → State
begin sessions items = record { sessions = map (λ (t : ℕ × ℕ). opened t.0 t.1) sessions; items = items }
