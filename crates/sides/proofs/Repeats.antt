-- Laws of rows that repeat. In order: an operand whose rows are all the same; the first row of each part of the rows' numbers.
use mathlib.Core.Path.{◌≡◌, refl, ap, ◌∙◌}
use Prim.Native.Nat.{ℕ, ◌*◌, ◌/◌, ◌%◌, ◌^◌, ◌≤◌, ◌<◌}
use native.Mathlib.Nat.{zero-div, div-eq_of_lt, div-le_self, mod-le, mod-mod}
use native.Mathlib.Omega.{arith}
use lib.Pow.{pow_mono, shl_exact, shl-shr}
use Rattle.sides.specs.Side.{constant, operand_at}
use Rattle.sides.specs.declared.Field.{Field}
use Rattle.sides.specs.declared.Side.TheVariants.{Row}

module _ (f : Field) (i : ℕ) (h : i < 256) where
  -- the rows' numbers have no bit so far left
  pub alike-past : 8 ≤ f.shift → operand_at (Row f) 0 ≡ operand_at (Row f) i
  unfolding operand_at
  alike-past l =
      let e : i / 2 ^ f.shift ≡ 0 = div-eq_of_lt (omega (arith, pow_mono {i = 8} {j = f.shift} l)) in
      rw (zero-div (2 ^ f.shift), e) refl

  module _ (p : ℕ) (l : f.shift < 8) (e : p ≡ i / 2 ^ f.shift % 2 ^ f.bits) where
    whole : p * 2 ^ f.shift % 2 ^ 64 ≡ p * 2 ^ f.shift
    whole =
        shl_exact {a = p} 8 f.shift 64
        (omega (arith, mod-le (i / 2 ^ f.shift) (2 ^ f.bits), div-le_self i (2 ^ f.shift)))
        (omega arith)

    pub start-alike : operand_at (Row f) (p * 2 ^ f.shift % 2 ^ 64) ≡ operand_at (Row f) i
    unfolding operand_at
    start-alike =
        ap (λ (n : ℕ). constant n f.size)
        (ap (λ (r : ℕ). r / 2 ^ f.shift % 2 ^ f.bits) whole ∙ ap (λ (q : ℕ). q % 2 ^ f.bits) (shl-shr p f.shift ∙ e)
        ∙ mod-mod (i / 2 ^ f.shift) (2 ^ f.bits))
