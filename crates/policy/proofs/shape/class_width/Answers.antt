-- `policy::class_width` meets its contract: one more attribute adds its bits to the width. Assumes nothing.
use mathlib.Core.Path.{◌≡◌, refl, sym, ap, ◌∙◌}
use Prim.Native.Nat.{ℕ}
use native.Mathlib.Omega.{arith}
use Rattle.policy.specs.Policy.{width, bits_for}
use Rattle.policy.specs.Rules.{attr_at, attrs_of}
use Rattle.policy.proofs.Laws.{cut, attrs-none, attrs-next, width-none, width-more}
use Rattle.policy.proofs.shape.class_width.Goals as goal

pub loop-k-init : goal.loop-k-init
loop-k-init c = record { first = sym (ap width (attrs-none _ refl) ∙ width-none); bound = omega arith }

pub loop-k-preserved : goal.loop-k-preserved
loop-k-preserved c =
    let t = c.loop-k in
    let a = c.args.class in
    let e = ap width (attrs-next a t.k) ∙ width-more (attrs_of (cut a t.k)) (attr_at a t.k) in
    let b : c.bits.result ≡ bits_for (attr_at a t.k) = c.bits.ensures ∙ ap bits_for c.attribute.ensures in
    record { first = omega (arith, e, b); bound = omega arith }

pub returns-clause-value : goal.returns-clause-value
returns-clause-value c =
    let a = c.args.class in
    let e : c.loop-k.k ≡ a.count = omega arith in
    c.loop-k.invariant.first ∙ ap (λ (k : ℕ). width (attrs_of (cut a k))) e
