-- Text that is put into lent bytes, as much of it as fits.
-- Assumes nothing.
use Rattle.std.specs.Prelude.{List, ◌++◌, ℕ, ◌-◌, min, length, take, drop}
use Rattle.std.proofs.Math.Seq.{paste}

-- the bytes `out` with a text at the front: its first bytes, as many as fit, and then the rest of `out` as it was
unfoldable pub over : List ℕ → List ℕ → List ℕ
over text out = take (length out) text ++ drop (length text) out

-- how many bytes of a text fit from place `at` on
unfoldable pub fitting : List ℕ → ℕ → List ℕ → ℕ
fitting out at text = min (length text) (length out - at)

-- the bytes `out` with those of a text from place `at` on
unfoldable pub put_at : List ℕ → ℕ → List ℕ → List ℕ
put_at out at text = paste out at text (fitting out at text)
