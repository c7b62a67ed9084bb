-- A reader over the file's bytes keeps its bit position [01:The rule file 2]: what it finds there, and where it stands then. A reader of the
-- published calls can pass over this file: their promises do not cite it.
-- Assumes nothing.
use Rattle.std.specs.Prelude.{List, ℕ, ◌+◌}
use Rattle.bits.specs.Field.{field_at}
use Rattle.std.specs.Prelude.{Option, Some, None}
use Rattle.format.specs.declared.bit_reader.Found.{Found}
use Rattle.format.specs.declared.bit_reader.BitReader.{BitReader}

-- where the next field begins, after one of w bits
abbrev pub after : Option ℕ → ℕ → ℕ → ℕ
after (Some x) at w = at + w
after None at w = at

-- the field of w bits at a place, and where the next one begins
unfoldable pub found_at : List ℕ → ℕ → ℕ → Found
found_at s at w = record { field = field_at s at w; at = after (field_at s at w) at w }

-- the reader after a field of w bits
abbrev pub past : BitReader → ℕ → BitReader
past r w = record { src = r.src; at = (found_at r.src.now r.at w).at }
