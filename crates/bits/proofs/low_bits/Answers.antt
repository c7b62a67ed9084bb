-- `bits::low_bits` meets its contract: a mask of n ones cuts a number to its last n bits, and 64 bits or more are all that it has.
use mathlib.Core.Path.{sym, ap, ◌∙◌}
use Prim.Native.Nat.{ℕ, ◌-◌, ◌^◌, ◌≤◌, ◌<◌}
use native.Mathlib.Nat.{mod-eq_of_lt}
use native.Mathlib.Omega.{arith}
use lib.Bits.{bit_and, and_mask}
use lib.Pow.{pow_mono}
use Rattle.bits.proofs.Laws.{ones}
use Rattle.bits.proofs.low_bits.Goals as goal

pub returns-then-n-lt64 : goal.returns-then-n-lt64
returns-then-n-lt64 c =
    let a = c.args in
    ap (λ (z : ℕ). bit_and a.x (z - 1)) (ones a.n (omega arith)) ∙ and_mask a.x a.n

pub returns-else-n-lt64 : goal.returns-else-n-lt64
returns-else-n-lt64 c =
    let a = c.args in
    let h : 64 ≤ a.n = c.if-n-lt64.false in
    let l : a.x < 2 ^ a.n = omega (arith, pow_mono h) in
    sym (mod-eq_of_lt l)
