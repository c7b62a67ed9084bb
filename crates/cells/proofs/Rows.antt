-- Laws of rows. In order: rows with equal parts; the parts as shifts and masks give them; from parts to a row and back; the row as a sum; a row's
-- step.
use mathlib.Core.Path.{◌≡◌, refl, ap, ◌∙◌}
use Prim.Native.Nat.{ℕ, ◌+◌, ◌-◌, ◌*◌, ◌/◌, ◌%◌, ◌^◌, ◌<◌}
use native.Mathlib.Nat.{mod-lt, mod-eq_of_lt}
use native.Mathlib.Omega.{arith}
use lib.Bits.{bit_and, and_mask}
use lib.Pow.{pow_pos}
use Rattle.cells.specs.Row.{parts_of, bits_of, step_of}
use Rattle.cells.specs.Claims.{FitsRow}
use Rattle.cells.specs.declared.row.Row.{Row}

row-ext : (a b : Row) → a.kind ≡ b.kind → a.actor ≡ b.actor → a.target ≡ b.target → a.value ≡ b.value → a.spare ≡ b.spare → a ≡ b
row-ext a b k c t v s = λ i. record { kind = k i; actor = c i; target = t i; value = v i; spare = s i }

-- the parts of a row, as shifts and masks give them
pub parts-masked : (x : ℕ) →
    Path Row
    record { kind = x / 2 ^ 60; actor = bit_and (x / 2 ^ 40) 1048575; target = bit_and (x / 2 ^ 20) 1048575; value = bit_and (x / 2 ^ 8) 4095; spare = bit_and x 255 }
    (parts_of x)
unfolding parts_of
parts-masked x = row-ext _ _ refl (and_mask (x / 2 ^ 40) 20) (and_mask (x / 2 ^ 20) 20) (and_mask (x / 2 ^ 8) 12) (and_mask x 8)

pub parts_again : (r : Row) → FitsRow r → parts_of (bits_of r) ≡ r
unfolding parts_of bits_of
parts_again r f =
    let k = f.kind in
    let a = f.actor in
    let t = f.target in
    let v = f.value in
    let s = f.spare in
    row-ext _ _ (omega arith) (omega arith) (omega arith) (omega arith) (omega arith)

-- a number from its parts, the last first: what is left of each, and the part
whole : (x a b c d s r q p : ℕ) → x ≡ a * 2 ^ 8 + s → a ≡ b * 2 ^ 12 + r → b ≡ c * 2 ^ 20 + q → c ≡ d * 2 ^ 20 + p →
    d * 2 ^ 60 + p * 2 ^ 40 + q * 2 ^ 20 + r * 2 ^ 8 + s ≡ x
whole x a b c d s r q p e₀ e₁ e₂ e₃ = omega arith

-- cut again to its bits, a part stays
cut : (x w : ℕ) → x % 2 ^ w % 2 ^ w ≡ x % 2 ^ w
cut x w = mod-eq_of_lt (mod-lt x (pow_pos w))

pub row-again : (x : ℕ) → x < 2 ^ 64 → bits_of (parts_of x) ≡ x
unfolding parts_of bits_of
row-again x h =
    let k : x / 2 ^ 60 % 2 ^ 4 ≡ x / 2 ^ 60 = omega arith in
    simp (k, cut (x / 2 ^ 40) 20, cut (x / 2 ^ 20) 20, cut (x / 2 ^ 8) 12, cut x 8)
    (whole x (x / 2 ^ 8) (x / 2 ^ 20) (x / 2 ^ 40) (x / 2 ^ 60) (x % 2 ^ 8) (x / 2 ^ 8 % 2 ^ 12) (x / 2 ^ 20 % 2 ^ 20) (x / 2 ^ 40 % 2 ^ 20)
    (omega arith) (omega arith) (omega arith) (omega arith))

pub parts-fit : (x : ℕ) → x < 2 ^ 64 → FitsRow (parts_of x)
unfolding parts_of
parts-fit x h = record { kind = omega arith; actor = omega arith; target = omega arith; value = omega arith; spare = omega arith }

-- a field of w bits with k bits after it, as a mask and a shift give it
field-placed : (n w k : ℕ) → n % 2 ^ w * 2 ^ k < 2 ^ 64 → bit_and n (2 ^ w - 1) * 2 ^ k % 2 ^ 64 ≡ n % 2 ^ w * 2 ^ k
field-placed n w k h = ap (λ (m : ℕ). m * 2 ^ k % 2 ^ 64) (and_mask n w) ∙ mod-eq_of_lt h

module _ (r : Row) where
  pub kind-placed : bit_and r.kind 15 * 2 ^ 60 % 2 ^ 64 ≡ r.kind % 2 ^ 4 * 2 ^ 60
  kind-placed = field-placed r.kind 4 60 (omega arith)

  pub actor-placed : bit_and r.actor 1048575 * 2 ^ 40 % 2 ^ 64 ≡ r.actor % 2 ^ 20 * 2 ^ 40
  actor-placed = field-placed r.actor 20 40 (omega arith)

  pub target-placed : bit_and r.target 1048575 * 2 ^ 20 % 2 ^ 64 ≡ r.target % 2 ^ 20 * 2 ^ 20
  target-placed = field-placed r.target 20 20 (omega arith)

  pub value-placed : bit_and r.value 4095 * 2 ^ 8 % 2 ^ 64 ≡ r.value % 2 ^ 12 * 2 ^ 8
  value-placed = field-placed r.value 12 8 (omega arith)

  pub spare-placed : bit_and r.spare 255 ≡ r.spare % 2 ^ 8
  spare-placed = and_mask r.spare 8

  pub bits_are : bit_and r.kind 15 * 2 ^ 60 % 2 ^ 64 + bit_and r.actor 1048575 * 2 ^ 40 % 2 ^ 64 + bit_and r.target 1048575 * 2 ^ 20 % 2 ^ 64
      + bit_and r.value 4095 * 2 ^ 8 % 2 ^ 64 + bit_and r.spare 255
      ≡ bits_of r
  unfolding bits_of
  bits_are = rw (kind-placed, actor-placed, target-placed, value-placed, spare-placed) refl

pub step_is : (r : Row) → step_of r ≡ record { kind = r.kind; actor = r.actor; target = r.target; value = r.value }
unfolding step_of
step_is r = refl
