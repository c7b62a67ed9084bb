-- Rows of 256 bits in an area of words: row a is the four words from 4 * a on. Past the area's end nothing is set.
-- Assumes nothing.
use Rattle.std.specs.Prelude.{◌≡◌, Bool, ◌&&◌, cond, List, ℕ, ◌+◌, ◌-◌, ◌*◌, ◌/◌, ◌%◌, ◌<◌, ltb, leb, eqb, get_or}
use Rattle.lanes.specs.Lanes.{bit_of}

-- bit v of row a
unfoldable pub bit_at : List ℕ → ℕ → ℕ → Bool
bit_at t a v = bit_of (get_or t (4 * a + v / 64) 0) (v % 64)

-- the rows of the area are those of A
pub record Rows (A : ℕ → ℕ → Bool) (t : List ℕ) : Type 0 where
  pub each : (a v : ℕ) → v < 256 → bit_at t a v ≡ A a v

-- A with f as row k
unfoldable pub put : ℕ → (ℕ → Bool) → (ℕ → ℕ → Bool) → ℕ → ℕ → Bool
put k f A a v = cond (eqb a k) (f v) (A a v)

-- A with g 0, g 1 and so on as the n rows from base on
unfoldable pub put_from : ℕ → ℕ → (ℕ → ℕ → Bool) → (ℕ → ℕ → Bool) → ℕ → ℕ → Bool
put_from base n g A a v = cond (leb base a && ltb a (base + n)) (g (a - base) v) (A a v)
