-- `planes::listed::coded` meets its contract: every number of a set's bits is a code, and of an atomic value's those below the size of its list.
use mathlib.Core.Path.{◌≡◌, refl, sym, ap, ap₂, ◌∙◌}
use Prim.Native.Nat.{ℕ, ◌/◌, ◌^◌}
use native.Mathlib.Nat.{one-mul}
use native.Mathlib.Omega.{arith}
use borrow.Author.Rules.{rules}
use lib.Dec.{ltb}
use lib.Pow.{shl_exact}
use Rattle.policy.specs.Rules.{as_attr}
use Rattle.planes.specs.Word.{number_in}
use Rattle.planes.specs.declared.operand.Operand.{Operand}
use Rattle.planes.proofs.Numbers.{number-constant}
use Rattle.planes.proofs.Words.{told-as, told-byte, told-all}
use Rattle.planes.proofs.Values.{code-set, code-atomic, code-full, field-number}
use Rattle.planes.proofs.listed.coded.Goals as goal

pub returns-then-attribute-ne0 : goal.returns-then-attribute-ne0
returns-then-attribute-ne0 c =
    let a = c.args in
    told-as a.planes.now _ _ _ (told-all a.planes.now) (λ v. sym (code-set (as_attr a.attribute) a.own (v / 2 ^ a.right) c.if-attribute-ne0.true c.requires))

pub returns-then-attribute-own : goal.returns-then-attribute-own
returns-then-attribute-own c =
    let a = c.args in
    let e : a.attribute.size ≡ 2 ^ a.own = c.if-attribute-own.true ∙ shl_exact 1 a.own 8 (omega arith) (omega arith) ∙ one-mul (2 ^ a.own) in
    told-as a.planes.now _ _ _ (told-all a.planes.now) (λ v. sym (code-full (as_attr a.attribute) a.own (v / 2 ^ a.right) (omega arith) e))

pub returns : goal.returns
returns c =
    let a = c.args in
    told-byte a.planes.now _ _ _ (search rules) c.order.ensures.below
    (λ v l.
    ap₂ ltb
    (ap (λ (k : ℕ). number_in record { shift = k; bits = a.own; number = 0; size = 0 } v) c.byte_of.ensures ∙ field-number v a.right a.own 0 0 l refl)
    (ap (λ (o : Operand). number_in o v) c.constant.ensures ∙ number-constant a.attribute.size 0 v)
    ∙ sym (code-atomic (as_attr a.attribute) a.own (v / 2 ^ a.right) (omega arith)))
