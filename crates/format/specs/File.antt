-- A whole file that has a format: read, with the filling bits at its end, and written.
-- Assumes nothing.
use Rattle.std.specs.Prelude.{◌≡◌, List, [], ◌∷◌, ℕ, ◌-◌, ◌*◌, ◌%◌, ◌^◌, ◌≤◌, ◌<◌, eqb, length}
use Rattle.std.proofs.Math.Option.{Option, none, some}
use Rattle.bits.specs.Field.{bit_at}
use Rattle.bits.specs.Packed.{packed}
use Rattle.format.specs.Format.{Res, Format, tested, and_then, field}

-- both have n bits, and these are the same
pub record SameBits (s s' : List ℕ) (n : ℕ) : Type 0 where
  pub left : n ≤ 8 * length s
  pub right : n ≤ 8 * length s'
  pub bits : (i : ℕ) → i < n → bit_at s i ≡ bit_at s' i

-- every number fits its bits
abbrev pub Fit : List (ℕ × ℕ) → Type 0
Fit [] = Unit {0}
Fit ((w, x) ∷ fs) = (x < 2 ^ w) × Fit fs

-- what writing gives: a refusal's number, or the bytes
pub data Bytes : Type 0 where
  refused : ℕ → Bytes
  bytes : List ℕ → Bytes

-- the bytes, unless there is a fault
unfoldable pub bytes_or : Option ℕ → List ℕ → Bytes
bytes_or none l = bytes l
bytes_or (some n) l = refused n

module _ {A : Type 0} where
  -- the filling bits, one field, and nothing after them [01:The rule file, "Zero bits fill the last byte, and nothing follows"]
  unfoldable pub ended : List ℕ → A → ℕ → Res A
  ended s a q = and_then ((field ((8 - q % 8) % 8) (eqb 0) 3).read s q) (λ x r. tested (eqb r (8 * length s)) 3 a r)

  -- a whole file is read
  unfoldable pub read_file : Format A → List ℕ → Res A
  read_file f s = and_then (f.read s 0) (λ a q. ended s a q)

  -- the file that holds a value
  unfoldable pub write_file : Format A → A → Bytes
  write_file f a = bytes_or (f.judge a) (packed (f.fields a))
