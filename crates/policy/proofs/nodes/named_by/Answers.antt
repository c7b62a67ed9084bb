-- `policy::nodes::named_by` meets its contract: a constant by its number; nothing where the holder may not be used, the place is past the class's
-- attributes or the kind is none; else the attribute there. Assumes nothing.
use mathlib.Core.Path.{sym, ◌∙◌}
use borrow.Author.Tests.{lt-ltb, le-ltb}
use native.Mathlib.Omega.{arith}
use Rattle.std.proofs.lemmas.Bool.Decides.{nat_tests}
use Rattle.policy.specs.Nodes.{holder_of, place_of}
use Rattle.policy.specs.Rules.{lists_of}
use Rattle.policy.proofs.OperandLaws.{operand-constant, operand-barred, operand-past, operand-place}
use Rattle.policy.proofs.nodes.named_by.Goals as goal
use Rattle.policy.proofs.nodes.named_by.Goals.{then-not-may_use-via-then-not-may_use, then-not-may_use-via-else-not-may_use+then-class-k}

pub returns-then-k-lt16 : goal.returns-then-k-lt16
unfolding holder_of place_of
returns-then-k-lt16 c = sym (operand-constant _ _ _ c.if-h-eq5.true ∙ simp (lt-ltb _ _ c.if-k-lt16.true))

pub returns-else-k-lt16 : goal.returns-else-k-lt16
unfolding holder_of place_of
returns-else-k-lt16 c = sym (operand-constant _ _ _ c.if-h-eq5.true ∙ simp (le-ltb _ _ c.if-k-lt16.false))

pub returns-then-not-may_use : goal.returns-then-not-may_use
unfolding holder_of place_of
returns-then-not-may_use c =
    elim c.then-not-may_use.branch [
      | then-not-may_use-via-then-not-may_use w ↦ sym (operand-barred _ _ _ c.if-h-eq5.false (sym c.may_use.ensures ∙ w.if-not-may_use.true))
      | then-not-may_use-via-else-not-may_use+then-class-k w ↦
          sym (operand-past _ _ _ _ c.of_holder-class.ensures c.if-h-eq5.false (sym c.may_use.ensures ∙ w.if-not-may_use.false) w.if-class-k.true)
    ]

pub returns-in-0 : goal.returns-in-0
unfolding holder_of place_of
returns-in-0 c =
    let place = operand-place (lists_of c.args.classes) c.args.f c.args.x c.of_holder-class.result c.of_holder-class.ensures c.if-h-eq5.false (sym c.may_use.ensures ∙ c.if-not-may_use.false) c.if-class-k.false in
    grind (arith, nat_tests, place, c.attribute-attribute.ensures)

pub returns-in-1 : goal.returns-in-1
unfolding holder_of place_of
returns-in-1 c =
    let place = operand-place (lists_of c.args.classes) c.args.f c.args.x c.of_holder-class.result c.of_holder-class.ensures c.if-h-eq5.false (sym c.may_use.ensures ∙ c.if-not-may_use.false) c.if-class-k.false in
    grind (arith, nat_tests, place, c.attribute-attribute.ensures)

pub returns-in_default : goal.returns-in_default
unfolding holder_of place_of
returns-in_default c =
    let h = c.in_default in
    let place = operand-place (lists_of c.args.classes) c.args.f c.args.x c.of_holder-class.result c.of_holder-class.ensures c.if-h-eq5.false (sym c.may_use.ensures ∙ c.if-not-may_use.false) c.if-class-k.false in
    grind (arith, nat_tests, place, c.attribute-attribute.ensures)
