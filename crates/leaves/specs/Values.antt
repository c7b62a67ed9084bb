-- Private vocabulary: rows of bits by the values of a field of the lane's number.
-- Assumes nothing.
use Rattle.std.specs.Prelude.{◌≡◌, Bool, not, ◌&&◌, cond, List, ℕ, ◌+◌, ◌-◌, ◌<◌, ltb, leb, eqb}
use Rattle.formulas.specs.Parts.{compared_by}
use Rattle.planes.specs.Word.{compared_in}
use Rattle.bitsets.specs.Rows.{bit_at}
use Rattle.sides.specs.Side.{operand_at}
use Rattle.sides.specs.declared.Side.{Side}

-- row x has the lanes v where F v is x; each F v is below n
pub record Hot (F : ℕ → ℕ) (n : ℕ) (t : List ℕ) : Type 0 where
  pub below : (v : ℕ) → v < 256 → F v < n
  pub each : (x v : ℕ) → x < n → v < 256 → bit_at t x v ≡ eqb (F v) x

-- the rows after the first z of n are parted: what P holds of goes to row n + z, the rest stays
unfoldable pub parted : ℕ → ℕ → (ℕ → Bool) → (ℕ → ℕ → Bool) → ℕ → ℕ → Bool
parted n z P A a v = cond (ltb a z) (A a v && not (P v)) (cond (leb n a && ltb a (n + z)) (A (a - n) v && P v) (A a v))

-- what a comparison says of x and y, where x is its first operand or its second
unfoldable pub sided : Bool → ℕ → ℕ → ℕ → ℕ → ℕ → Bool
sided second op x m y n = cond second (compared_by op y n x m) (compared_by op x m y n)

-- the first n rows from base on say what a comparison of x and y says
pub record Filled (op : ℕ) (x y : Side) (base n : ℕ) (t : List ℕ) : Type 0 where
  pub each : (j v : ℕ) → j < n → v < 256 → bit_at t (base + j) v ≡ compared_in op (operand_at x j) (operand_at y j) v
