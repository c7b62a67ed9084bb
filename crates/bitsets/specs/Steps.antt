-- A step works out one row from others. It is one number: what it does (from bit 48 on), its row, and the rows that it looks at (16 bits each).
-- Assumes nothing.
use Rattle.std.specs.Prelude.{◌≡◌, Bool, false, cond, List, ℕ, zero, suc, ◌+◌, ◌*◌, ◌/◌, ◌%◌, ◌≤◌, ◌<◌, eqb, get_or}
use Rattle.formulas.specs.Parts.{joined_by}
use Rattle.bitsets.specs.Rows.{put}

unfoldable pub does_of : ℕ → ℕ
does_of s = s / 281474976710656

unfoldable pub row_of : ℕ → ℕ
row_of s = s / 4294967296 % 65536

unfoldable pub left_of : ℕ → ℕ
left_of s = s / 65536 % 65536

unfoldable pub right_of : ℕ → ℕ
right_of s = s % 65536

-- such a number
unfoldable pub step_of : ℕ → ℕ → ℕ → ℕ → ℕ
step_of does row left right = does * 281474976710656 + row * 4294967296 + left * 65536 + right

-- bit v of a step's row, for the index i: 0 to 4 join two rows as the operators of those numbers join answers, 5 is bit i of a row for every v, and 6
-- is row i of a table that begins at a row
unfoldable pub step_says : (ℕ → ℕ → Bool) → ℕ → ℕ → ℕ → Bool
step_says A i s v =
    cond (eqb (does_of s) 5) (A (left_of s) i)
    (cond (eqb (does_of s) 6) (A (left_of s + i) v)
    (joined_by (does_of s) (A (left_of s) v) (A (right_of s) v) false))

-- the rows after the m steps from place `first` on, one after another
unfoldable pub ran : List ℕ → ℕ → ℕ → ℕ → (ℕ → ℕ → Bool) → ℕ → ℕ → Bool
ran steps first i zero A = A
ran steps first i (suc m) A =
    let before = ran steps first i m A in
    put (row_of (get_or steps (first + m) 0)) (step_says before i (get_or steps (first + m) 0)) before

-- a step's row, and the rows that it looks at for the index i, are in an area of n words
pub record Fits (n i s : ℕ) : Type 0 where
  pub index : i < 256
  pub own : 4 * row_of s + 4 ≤ n
  pub left : 4 * left_of s + 4 ≤ n
  pub right : 4 * right_of s + 4 ≤ n
  pub table : does_of s ≡ 6 → 4 * (left_of s + i) + 4 ≤ n
