-- `sides::field_of` meets its contract: an attribute that is not there, and one that is.
use mathlib.Core.Path.{◌≡◌, ap, ◌∙◌}
use Rattle.policy.specs.Policy.{Attr, bits_for}
use Rattle.policy.specs.Rules.{attr_at}
use Rattle.sides.proofs.Fields.{field-none, field-there}
use Rattle.sides.proofs.field_of.Goals as goal

pub returns-then-class-k : goal.returns-then-class-k
returns-then-class-k c = let a = c.args in field-none a.class a.k c.if-class-k.true

pub returns : goal.returns
returns c =
    let d = c.args.class in
    let k = c.args.k in
    let own : c.bits.result ≡ bits_for (attr_at d k) = c.bits.ensures ∙ ap bits_for c.attribute-attribute.ensures in
    let size : c.attribute-attribute.result.size ≡ (attr_at d k).size = ap (λ (a : Attr). a.size) c.attribute-attribute.ensures in
    field-there d k _ _ _ _ c.if-class-k.false c.byte_of.ensures c.right_of.ensures own size
