-- `planes::operand::order` meets its contract. The loop's invariant: what stands left of bit k is below, and is the same.
use mathlib.Core.Path.{◌≡◌, sym, ap, ap₂, ◌∙◌}
use Prim.Native.Nat.{ℕ, ◌-◌, ◌/◌, ◌^◌, ◌≤◌}
use native.Mathlib.Omega.{arith}
use borrow.Author.Rules.{rules}
use lib.Dec.{ltb, eqb}
use Rattle.planes.specs.Word.{number_in}
use Rattle.planes.proofs.Numbers.{number-high}
use Rattle.planes.proofs.Words.{told-as, told-whole}
use Rattle.planes.proofs.Turns.{below-turn, same_turn}
use Rattle.planes.proofs.operand.order.Goals as goal

pub loop-k-init : goal.loop-k-init
loop-k-init c =
    let a = c.args in
    let n = c.max-n.result in
    let x : a.x.bits ≤ n = search rules in
    let y : a.y.bits ≤ n = search rules in
    let left : (v : ℕ) → c.high-a.result ≡ number_in a.x v / 2 ^ n = λ v. c.high-a.ensures ∙ sym (number-high a.x v n x) in
    let right : (v : ℕ) → c.high-b.result ≡ number_in a.y v / 2 ^ n = λ v. c.high-b.ensures ∙ sym (number-high a.y v n y) in (
      told-as a.planes.now _ _ _ (told-whole a.planes.now _ _ c.whole-below.ensures) (λ v. ap₂ ltb (left v) (right v)),
      told-as a.planes.now _ _ _ (told-whole a.planes.now _ _ c.whole-same.ensures) (λ v. ap₂ eqb (left v) (right v)),
    )

pub loop-k-preserved : goal.loop-k-preserved
loop-k-preserved c =
    let t = c.loop-k in
    let a = c.args in
    let turn = below-turn a.planes.now (number_in a.x) (number_in a.y) t.k (t.k - 1) t.below t.same _ _ (omega arith) t.invariant.0 t.invariant.1 (search rules) (search rules) c.bit-p.ensures c.bit-q.ensures in
    (turn, same_turn a.planes.now (number_in a.x) (number_in a.y) t.k (t.k - 1) t.below t.same _ _ (omega arith) t.invariant.0 t.invariant.1 (search rules) (search rules) c.bit-p.ensures c.bit-q.ensures)

pub returns : goal.returns
returns c =
    let t = c.loop-k in
    let a = c.args in
    let e : t.k ≡ 0 = omega arith in
    let all : (x : ℕ) → x / 2 ^ t.k ≡ x = λ x. ap (λ (k : ℕ). x / 2 ^ k) e ∙ omega arith in
    record {
      below = told-as a.planes.now _ _ _ t.invariant.0 (λ v. ap₂ ltb (all (number_in a.x v)) (all (number_in a.y v)));
      same = told-as a.planes.now _ _ _ t.invariant.1 (λ v. ap₂ eqb (all (number_in a.x v)) (all (number_in a.y v)));
    }
