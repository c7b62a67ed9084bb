-- The tables of a formula's comparisons: which rows of the area are written, and what they say. L, R and O are the numbers of the lane, the row and the
-- outer holder.
-- Assumes nothing.
use Rattle.std.specs.Prelude.{◌≡◌, Bool, false, List, ℕ, ◌+◌, ◌≤◌, ◌<◌, length, get_or}
use Rattle.policy.specs.Policy.{Lists}
use Rattle.policy.specs.Nodes.{op_of}
use Rattle.bitsets.specs.Rows.{bit_at}
use Rattle.sides.specs.Leaf.{leaf}
use Rattle.prepared.specs.Prepared.{table_at, lane_for, row_for, rows_for}
use Rattle.tables.specs.declared.Marks.{Marks}
use Rattle.tables.specs.declared.On.{On}

-- which of the three holders node k depends on
abbrev pub marks_at : Marks → ℕ → On
marks_at m k = record { lane = get_or m.lane.now k false; row = get_or m.row.now k false; outer = get_or m.outer.now k false }

-- the first n nodes have their marks
abbrev pub Marked : ℕ → Marks → Type 0
Marked n m = (n ≤ length m.lane.now) × (n ≤ length m.row.now) × (n ≤ length m.outer.now)

-- the table of one node, which depends on the holders that the three flags tell of, begins at row base; the rows before it stay. A node that joins
-- others has none
pub record Table (c : Lists) (L R O : ℕ) (lanes rows outer : Bool) (node base : ℕ) (old new : List ℕ) : Type 0 where
  pub kept : (a v : ℕ) → a < base → v < 256 → bit_at new a v ≡ bit_at old a v
  pub each : (i v : ℕ) → v < 256 → 5 ≤ op_of node → i < rows_for c L R O lanes rows outer
      → bit_at new (base + i) v ≡ leaf c (lane_for L R O lanes rows) (row_for L R O lanes rows) node i v

-- the tables of the first n nodes; the rows of the boards stay
pub record Tables (c : Lists) (L R O : ℕ) (lanes rows outer : List Bool) (node : ℕ → ℕ) (room n : ℕ) (old new : List ℕ) : Type 0 where
  pub kept : (a v : ℕ) → a < 193 → v < 256 → bit_at new a v ≡ bit_at old a v
  pub each : (k i v : ℕ) → k < n → v < 256 → 5 ≤ op_of (node k) → i < rows_for c L R O (get_or lanes k false) (get_or rows k false) (get_or outer k false)
      → bit_at new (table_at room k + i) v
      ≡ leaf c (lane_for L R O (get_or lanes k false) (get_or rows k false)) (row_for L R O (get_or lanes k false) (get_or rows k false)) (node k) i v
