-- `planes::set::member` meets its contract. The loop's invariant: the number is below i, and a member. The measure is what is left of eight.
use mathlib.Core.Path.{◌≡◌, sym, ap, ◌∙◌}
use mathlib.Core.Bool.{Bool, ◌&&◌}
use Prim.Native.Nat.{ℕ}
use native.Mathlib.Omega.{arith}
use borrow.Author.Tests.{le-ltb}
use lib.Dec.{ltb, eqb}
use Rattle.bits.specs.Set.{in_set}
use Rattle.planes.specs.Word.{Told, number_in}
use Rattle.planes.specs.declared.operand.Operand.{Operand}
use Rattle.planes.proofs.Numbers.{number-constant, number-plain}
use Rattle.planes.proofs.Words.{told-as, told_none}
use Rattle.planes.proofs.Turns.{member-turn, member-all}
use borrow.Author.Rules.{rules}
use Rattle.planes.proofs.set.member.Goals as goal

pub returns-then-x-eq0 : goal.returns-then-x-eq0
returns-then-x-eq0 c =
    let a = c.args in
    told-as a.planes.now _ _ _ c.has.ensures (λ v. ap (in_set a.y.size (number_in a.y v)) (sym (number-plain a.x v c.if-x-eq0.true)))

pub loop-i-init : goal.loop-i-init
loop-i-init c =
    let a = c.args in
    (search rules, told-as a.planes.now _ _ _ (told_none a.planes.now) (λ v. sym (ap (λ (t : Bool). t && in_set a.y.size (number_in a.y v) (number_in a.x v)) (le-ltb (number_in a.x v) 0 (omega arith)))))

pub loop-i-preserved : goal.loop-i-preserved
loop-i-preserved c =
    let t = c.loop-i in
    let a = c.args in
    let k = c.constant in
    let o = c.order-o in
    let same : Told a.planes.now (λ v. eqb (number_in a.x v) t.i) o.result.same =
    told-as a.planes.now _ _ _ o.ensures.same (λ v. ap (eqb (number_in a.x v)) (ap (λ (z : Operand). number_in z v) k.ensures ∙ number-constant t.i 0 v)) in
    (search rules, member-turn a.planes.now (number_in a.x) (λ v. in_set a.y.size (number_in a.y v)) t.i t.r _ _ t.invariant.1 same c.has-in-loop-i.ensures)

pub returns : goal.returns
returns c =
    let t = c.loop-i in
    let a = c.args in
    let e : t.i ≡ 8 = omega arith in
    told-as a.planes.now _ _ _ t.invariant.1 (λ v. ap (λ (i : ℕ). ltb (number_in a.x v) i && in_set a.y.size (number_in a.y v) (number_in a.x v)) e ∙ member-all a.y.size (number_in a.y v) (number_in a.x v))
