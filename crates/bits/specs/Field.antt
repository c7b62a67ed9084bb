-- Bits of bytes and numbers made of them, most significant first [01:The rule file 1].
-- The one meaning of "bit i of the bytes" and of "the number at a place of w bits".
-- Assumes nothing.
use Rattle.std.specs.Prelude.{cond, List, ℕ, zero, suc, ◌+◌, ◌-◌, ◌*◌, ◌/◌, ◌%◌, ◌^◌, length, get_or, leb, Option, Some, None}

-- bit i of the bytes s
unfoldable pub bit_at : List ℕ → ℕ → ℕ
bit_at s i = get_or s (i / 8) 0 / 2 ^ (7 - i % 8) % 2

-- the number whose w bits are those of b from place pos on
unfoldable pub number_of : (ℕ → ℕ) → ℕ → ℕ → ℕ
number_of b pos zero = 0
number_of b pos (suc w) = number_of b pos w * 2 + b (pos + w)

-- the number at the place of w bits that begins at bit pos of the bytes s
unfoldable pub number_at : List ℕ → ℕ → ℕ → ℕ
number_at s pos w = number_of (bit_at s) pos w

-- that number, where the place does not run past the end
unfoldable pub field_at : List ℕ → ℕ → ℕ → Option ℕ
field_at s pos w = cond (leb (pos + w) (8 * length s)) (Some (number_at s pos w)) None
