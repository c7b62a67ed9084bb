-- What is proved of rows and cells. The proofs are in proofs/Theorems.antt.
-- Assumes nothing.
use Rattle.std.specs.Prelude.{◌≡◌, Bool, true, List, ◌↔◌, ℕ, ◌^◌, ◌<◌, length, get_or}
use Rattle.std.proofs.Math.Option.{some}
use Rattle.runs.specs.State.{opened}
use Rattle.cells.specs.Row.{parts_of, bits_of}
use Rattle.cells.specs.Cell.{place_of, open_cell, item_cell, session_at, item_at}
use Rattle.cells.specs.declared.row.Row.{Row}

-- every part fits its field
pub record FitsRow (r : Row) : Type 0 where
  pub kind : r.kind < 2 ^ 4
  pub actor : r.actor < 2 ^ 20
  pub target : r.target < 2 ^ 20
  pub value : r.value < 2 ^ 12
  pub spare : r.spare < 2 ^ 8

-- [01:Steps 1]: the row of some parts has these parts, and the parts of a row make that row
pub record RowsAreTheirParts : Type 0 where
  pub parts_again : (r : Row) → FitsRow r → parts_of (bits_of r) ≡ r
  pub row-again : (x : ℕ) → x < 2 ^ 64 → bits_of (parts_of x) ≡ x
  pub parts-fit : (x : ℕ) → x < 2 ^ 64 → FitsRow (parts_of x)

-- [01:Steps, "cell i for number i"]: different numbers have different cells
abbrev pub CellsAreTheirOwn : Type 0
CellsAreTheirOwn = (j k : ℕ) → place_of j ≡ place_of k → j ≡ k

-- a session is there
pub record SessionThere (users : ℕ) (listed : ℕ → Bool) (cells : List ℕ) (next k user value : ℕ) : Type 0 where
  pub given : k < next
  pub celled : place_of k < length cells
  pub coded : get_or cells (place_of k) 0 ≡ open_cell user value
  pub known : user < users
  pub in-lists : listed value ≡ true

-- an item is there
pub record ItemThere (listed : ℕ → Bool) (cells : List ℕ) (next k value : ℕ) : Type 0 where
  pub given : k < next
  pub celled : place_of k < length cells
  pub coded : get_or cells (place_of k) 0 ≡ item_cell value
  pub in-lists : listed value ≡ true

-- [01:Steps, "number i is there if it is below the next number and its cell codes it with a user and value of the rules"]:
-- whatever the cells hold, where users and values are bytes
pub record LentStateAsItReads : Type 0 where
  pub sessions : (users : ℕ) (listed : ℕ → Bool) (cells : List ℕ) (next k user value : ℕ) → user < 256 → value < 256
      → (session_at users listed cells next k ≡ opened user value) ↔ SessionThere users listed cells next k user value
  pub items : (listed : ℕ → Bool) (cells : List ℕ) (next k value : ℕ) → value < 256
      → (item_at listed cells next k ≡ some value) ↔ ItemThere listed cells next k value
