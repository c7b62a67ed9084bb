-- A step as a row of 64 bits [01:Steps 1; docs/CELLS.md]: kind (4), actor (20), target (20), value (12), spare (8), most significant first.
-- Assumes nothing.
use Rattle.std.specs.Prelude.{ℕ, ◌+◌, ◌*◌, ◌/◌, ◌%◌, ◌^◌}
use Rattle.runs.specs.Step.{Step}
use Rattle.cells.specs.declared.row.Row.{Row}

-- the parts of a row
unfoldable pub parts_of : ℕ → Row
parts_of x = record { kind = x / 2 ^ 60; actor = x / 2 ^ 40 % 2 ^ 20; target = x / 2 ^ 20 % 2 ^ 20; value = x / 2 ^ 8 % 2 ^ 12; spare = x % 2 ^ 8 }

-- the row of some parts, each cut to its field
unfoldable pub bits_of : Row → ℕ
bits_of r = r.kind % 2 ^ 4 * 2 ^ 60 + r.actor % 2 ^ 20 * 2 ^ 40 + r.target % 2 ^ 20 * 2 ^ 20 + r.value % 2 ^ 12 * 2 ^ 8 + r.spare % 2 ^ 8

-- the step that a row asks for
unfoldable pub step_of : Row → Step
step_of r = record { kind = r.kind; actor = r.actor; target = r.target; value = r.value }

-- the step of a row
abbrev pub row_step : ℕ → Step
row_step row = step_of (parts_of row)
