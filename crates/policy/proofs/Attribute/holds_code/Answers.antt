-- `policy::Attribute::holds_code` meets its contract: a number is below 2 ^ size exactly where nothing is left of it without its last `size` bits. Assumes nothing.
use mathlib.Core.Path.{◌≡◌, sym, ◌∙◌}
use Prim.Native.Nat.{ℕ, ◌*◌, ◌/◌, ◌^◌, ◌<◌}
use native.Mathlib.Decide.{dec_lt}
use native.Mathlib.Nat.{div-lt_iff_lt-mul}
use native.Mathlib.Omega.{arith}
use borrow.Author.Tests.{le-leb, lt-ltb, le-ltb, eq-eqb, ne_eqb}
use lib.Dec.{ltb, eqb}
use lib.Pow.{pow_pos}
use Rattle.format.specs.Format.{within}
use Rattle.policy.specs.Policy.{codes}
use Rattle.policy.proofs.Attribute.holds_code.Goals as goal

shifted-out : (x k : ℕ) → eqb (x / 2 ^ k) 0 ≡ ltb x (2 ^ k)
shifted-out x k = go (dec_lt x (2 ^ k))
  where
    go : Dec (x < 2 ^ k) → eqb (x / 2 ^ k) 0 ≡ ltb x (2 ^ k)
    go (yes l) =
        let h : x / 2 ^ k < 1 = (div-lt_iff_lt-mul (pow_pos k)).1 (omega arith) in
        eq-eqb (x / 2 ^ k) 0 (omega arith) ∙ sym (lt-ltb x (2 ^ k) l)
    go (no g) =
        ne_eqb (x / 2 ^ k) 0 (λ e. let h : x < 1 * 2 ^ k = (div-lt_iff_lt-mul (pow_pos k)).0 (omega arith) in omega arith) ∙ sym (le-ltb x (2 ^ k) (omega arith))

pub returns-else-self-eq0 : goal.returns-else-self-eq0
unfolding within codes
returns-else-self-eq0 c =
    simp (le-leb 0 c.args.x (omega arith), c.high_bits.ensures, shifted-out c.args.x c.args.self.size, ne_eqb _ _ c.if-self-eq0.false)
