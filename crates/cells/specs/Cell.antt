-- How the lent cells code sessions and items, and what a lent cell says [01:Steps, "A lent state that no run left is taken as it reads";
-- docs/CELLS.md]. A session cell is 65536 + 256 * user + value, an item cell 65536 + value; 0 is a closed session, or nothing.
-- Assumes nothing.
use Rattle.std.specs.Prelude.{Bool, ◌&&◌, cond, List, ℕ, ◌+◌, ◌*◌, ◌/◌, ◌%◌, ltb, eqb, get_or, Option as Read, Some, None}
use Rattle.std.proofs.Math.Option.{Option, none, some}
use Rattle.runs.specs.State.{Session, closed, opened}
use Rattle.cells.specs.declared.Session.{Session as OpenSession}

-- the cell that holds a number: cell i for number i
unfoldable pub place_of : ℕ → ℕ
place_of i = i

-- the cell of an open session
unfoldable pub open_cell : ℕ → ℕ → ℕ
open_cell user value = 65536 + 256 * user + value

-- the cell of a closed session
unfoldable pub closed_cell : ℕ
closed_cell = 0

-- the cell of an item
unfoldable pub item_cell : ℕ → ℕ
item_cell value = 65536 + value

module _ (users : ℕ) (listed : ℕ → Bool) where
  -- the session that a cell codes: marked, with a user and value of the rules; any other content is as good as closed
  unfoldable pub session_in : ℕ → Session
  session_in c =
      let user = c / 256 % 256 in
      let value = c % 256 in
      cond (eqb (c / 65536) 1 && ltb user users && listed value) (opened user value) closed

  -- session number k of the lent cells: there if it is below the next number, has a cell, and the cell codes it
  unfoldable pub session_at : List ℕ → ℕ → ℕ → Session
  session_at cells next k = cond (ltb k next) (session_in (get_or cells (place_of k) 0)) closed

module _ (listed : ℕ → Bool) where
  -- the value of the item that a cell codes
  unfoldable pub item_in : ℕ → Option ℕ
  item_in c = cond (eqb (c / 256) 256 && listed (c % 256)) (some (c % 256)) none

  -- item number k of the lent cells
  unfoldable pub item_at : List ℕ → ℕ → ℕ → Option ℕ
  item_at cells next k = cond (ltb k next) (item_in (get_or cells (place_of k) 0)) none

-- a session as the program reads it
unfoldable pub session_read : Session → Read OpenSession
session_read closed = None
session_read (opened user value) = Some record { user = user; value = value }

-- an item's value as the program reads it
unfoldable pub item_read : Option ℕ → Read ℕ
item_read none = None
item_read (some value) = Some value
