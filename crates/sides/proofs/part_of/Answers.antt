-- `sides::part_of` meets its contract: a byte has nothing above its 8 bits.
use mathlib.Core.Path.{◌≡◌, sym, ap, ◌∙◌}
use Prim.Native.Nat.{ℕ, ◌/◌, ◌%◌, ◌^◌}
use native.Mathlib.Nat.{mod-eq_of_lt, div-le_self, div-eq_of_lt}
use native.Mathlib.Omega.{arith}
use lib.Pow.{pow_pos, pow_mono}
use Rattle.sides.proofs.part_of.Goals as goal

pub returns-then-shift-ge8 : goal.returns-then-shift-ge8
returns-then-shift-ge8 c =
    let a = c.args in
    let e : a.v / 2 ^ a.shift ≡ 0 = div-eq_of_lt (omega (arith, pow_mono {i = 8} {j = a.shift} c.if-shift-ge8.true)) in
    sym (ap (λ (z : ℕ). z % 2 ^ a.bits) e ∙ mod-eq_of_lt (pow_pos a.bits))

pub returns-then-bits-ge8 : goal.returns-then-bits-ge8
returns-then-bits-ge8 c =
    let a = c.args in
    sym (mod-eq_of_lt (omega (arith, div-le_self a.v (2 ^ a.shift), pow_mono {i = 8} {j = a.bits} c.if-bits-ge8.true)))
