-- `planes::listed::values_word` meets its contract: no number past the class's width is a value of it.
use mathlib.Core.Path.{◌≡◌, sym, ap, ◌∙◌}
use Prim.Native.Nat.{ℕ, ◌+◌, ◌*◌, ◌%◌, ◌^◌, ◌≤◌}
use native.Mathlib.Nat.{one-mul}
use native.Mathlib.Omega.{arith}
use lib.Pow.{shl_exact}
use Rattle.policy.specs.Policy.{width}
use Rattle.policy.specs.Rules.{attrs_of}
use Rattle.planes.proofs.Words.{word_none}
use Rattle.planes.proofs.Values.{in-wider}
use Rattle.planes.proofs.listed.values_word.Goals as goal

pub returns-then-n-w : goal.returns-then-n-w
returns-then-n-w c =
    let a = c.args in
    let l = attrs_of a.class in
    let e : 1 * 2 ^ a.n % 2 ^ 64 ≡ 2 ^ width l = shl_exact 1 a.n 64 (omega arith) (omega arith) ∙ one-mul (2 ^ a.n) ∙ ap (λ (k : ℕ). 2 ^ k) c.requires.n_value in
    let d : 2 ^ width l ≤ 64 * a.w = omega (arith, e, c.if-n-w.true) in
    record { each = λ j h. (word_none a.w).each j h ∙ sym (in-wider l (64 * a.w + j) (omega (arith, c.requires.w_bound)) (omega (arith, d))) }
