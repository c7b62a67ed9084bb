-- `format::fits` meets its contract: nothing is left of a number that fits w bits without its last w bits.
use mathlib.Core.Path.{◌≡◌, sym, ◌∙◌}
use Prim.Native.Nat.{ℕ, ◌/◌, ◌^◌, ◌<◌}
use native.Mathlib.Decide.{dec_lt}
use native.Mathlib.Nat.{div-eq_of_lt, div-lt_iff_lt-mul}
use native.Mathlib.Omega.{arith}
use borrow.Author.Tests.{eq-eqb, ne_eqb, lt-ltb, le-ltb}
use lib.Dec.{eqb, ltb}
use lib.Pow.{pow_pos}
use Rattle.format.proofs.fits.Goals as goal

nothing_left : (x w : ℕ) → eqb (x / 2 ^ w) 0 ≡ ltb x (2 ^ w)
nothing_left x w = go (dec_lt x (2 ^ w))
  where
    go : Dec (x < 2 ^ w) → eqb (x / 2 ^ w) 0 ≡ ltb x (2 ^ w)
    go (yes h) = eq-eqb _ _ (div-eq_of_lt h) ∙ sym (lt-ltb x (2 ^ w) h)
    go (no h) = ne_eqb (x / 2 ^ w) 0 (λ e. omega (arith, (div-lt_iff_lt-mul {k = 2 ^ w} {x = x} {y = 1} (pow_pos w)).0 (omega arith))) ∙ sym (le-ltb x (2 ^ w) (omega arith))

pub returns : goal.returns
returns c = rw c.high_bits.ensures (nothing_left c.args.x c.args.w)
