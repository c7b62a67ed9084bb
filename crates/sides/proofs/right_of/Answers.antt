-- `sides::right_of` meets its contract. The loop's invariant: right is the width of the attributes from j on.
use mathlib.Core.Path.{◌≡◌, sym, ap, ◌∙◌}
use Prim.Native.Nat.{ℕ, ◌+◌, ◌-◌}
use native.Mathlib.Omega.{arith}
use lib.ListN.{drop}
use Rattle.policy.specs.Policy.{bits_for, width}
use Rattle.policy.specs.Rules.{attr_at, attrs_of}
use Rattle.formulas.proofs.TableLaws.{later-none, later_more}
use borrow.Author.Rules.{rules}
use Rattle.sides.proofs.right_of.Goals as goal

pub loop-j-init : goal.loop-j-init
loop-j-init c = (search rules, search rules, sym (later-none c.args.class))

pub loop-j-preserved : goal.loop-j-preserved
loop-j-preserved c =
    let t = c.loop-j in
    let d = c.args.class in
    let j = t.j - 1 in
    let e : t.j ≡ j + 1 = omega arith in
    let own : c.bits.result ≡ bits_for (attr_at d j) = c.bits.ensures ∙ ap bits_for c.attribute.ensures in
    let later : t.right ≡ width (drop (j + 1) (attrs_of d)) = t.invariant.2 ∙ ap (λ (n : ℕ). width (drop n (attrs_of d))) e in
    (search rules, search rules, omega (arith, later_more d j (omega arith)))

pub returns : goal.returns
returns c =
    let t = c.loop-j in
    let e : t.j ≡ c.args.k + 1 = omega arith in
    t.invariant.2 ∙ ap (λ (n : ℕ). width (drop n (attrs_of c.args.class))) e
