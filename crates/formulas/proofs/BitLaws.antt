-- Laws of bits. What of a byte stands right and left of some bits.
use mathlib.Core.Path.{◌≡◌, sym, ap, ◌∙◌}
use Prim.Native.Nat.{ℕ, ◌/◌, ◌%◌, ◌^◌, ◌≤◌, ◌<◌, min}
use native.Mathlib.Nat.{mod-eq_of_lt, div-eq_of_lt}
use native.Mathlib.Decide.{dec_lt}
use native.Mathlib.Omega.{arith}
use lib.Pow.{pow_mono}

-- a byte has nothing above its 8 bits
pub byte_low : (v bits : ℕ) → v ≤ 255 → v % 2 ^ min bits 8 ≡ v % 2 ^ bits
byte_low v bits h = go (dec_lt bits 8)
  where
    go : Dec (bits < 8) → v % 2 ^ min bits 8 ≡ v % 2 ^ bits
    go (yes l) = ap (λ (n : ℕ). v % 2 ^ n) (omega arith)
    go (no l) =
        let e : min bits 8 ≡ 8 = omega arith in
        ap (λ (n : ℕ). v % 2 ^ n) e ∙ mod-eq_of_lt {n = v} {m = 2 ^ 8} (omega arith)
        ∙ sym (mod-eq_of_lt {n = v} {m = 2 ^ bits} (omega (arith, pow_mono {i = 8} {j = bits} (omega arith))))

pub byte_high : (v bits : ℕ) → v ≤ 255 → v / 2 ^ min bits 8 ≡ v / 2 ^ bits
byte_high v bits h = go (dec_lt bits 8)
  where
    go : Dec (bits < 8) → v / 2 ^ min bits 8 ≡ v / 2 ^ bits
    go (yes l) = ap (λ (n : ℕ). v / 2 ^ n) (omega arith)
    go (no l) =
        let e : min bits 8 ≡ 8 = omega arith in
        ap (λ (n : ℕ). v / 2 ^ n) e ∙ div-eq_of_lt {n = v} {m = 2 ^ 8} (omega arith)
        ∙ sym (div-eq_of_lt {n = v} {m = 2 ^ bits} (omega (arith, pow_mono {i = 8} {j = bits} (omega arith))))
