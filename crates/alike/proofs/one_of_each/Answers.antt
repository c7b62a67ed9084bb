-- `alike::one_of_each` meets its contract: the bits of the operands of all comparisons are all that the formula reads of the holder's value.
use mathlib.Core.Path.{ap, ◌∙◌}
use mathlib.Core.List.{List}
use Rattle.bits.specs.Packed.{tab}
use Rattle.policy.specs.Policy.{Attr}
use Rattle.policy.specs.Rules.{lists_of}
use Rattle.alike.specs.Fields.{shift_in, bits_in}
use Rattle.alike.proofs.Same.{one-by-mask}
use Rattle.alike.proofs.one_of_each.Goals as goal

pub returns : goal.returns
returns c =
    let a = c.args in
    let l = c.fields_of-l in
    let e = c.class_of.ensures in
    one-by-mask (lists_of a.classes) a.nodes.now a.f a.n a.h c.formula_mask.result l.result.shifts l.result.bits
    (l.ensures.shifts_value ∙ ap (λ (t : List Attr). tab (shift_in t a.h) 0 256) e) (l.ensures.bits_value ∙ ap (λ (t : List Attr). tab (bits_in t a.h) 0 256) e)
    c.formula_mask.ensures a.among c.one_of_each_in.result c.one_of_each_in.ensures
