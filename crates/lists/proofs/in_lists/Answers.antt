-- `lists::in_lists` meets its contract: the first of the attributes that are left has a code for what stands leftmost, or v is in no lists.
use mathlib.Core.Path.{sym, ap, ◌∙◌}
use Prim.Native.Nat.{◌+◌}
use native.Mathlib.Omega.{arith}
use lib.ListN.{drop}
use Rattle.policy.specs.Policy.{bits_for}
use Rattle.policy.specs.Rules.{attrs_of}
use Rattle.lists.specs.Lists.{in_lists}
use Rattle.lists.proofs.Laws.{in-none, in_rest, in-not, left_after, left_enough}
use Rattle.lists.proofs.in_lists.Goals as goal

pub overflow_sub-left : goal.overflow_sub-left
overflow_sub-left c =
    let a = c.args.class in
    let t = c.loop-k in
    left_enough a t.k t.left _ (omega arith) t.invariant.width_left (c.bits.ensures ∙ ap bits_for c.attribute-attribute.ensures)

pub returns-then-not-holds_code : goal.returns-then-not-holds_code
returns-then-not-holds_code c =
    let a = c.args.class in
    let t = c.loop-k in
    let w = left_after a t.k t.left c.bits.result (omega arith) t.invariant.width_left (c.bits.ensures ∙ ap bits_for c.attribute-attribute.ensures) in
    sym (t.invariant.value_left ∙ in-not a t.k t.rest _ (omega arith) w (let d = c.attribute-attribute.ensures in let f = c.holds_code.ensures in cc))

pub loop-k-preserved : goal.loop-k-preserved
loop-k-preserved c =
    let a = c.args.class in
    let t = c.loop-k in
    let w = left_after a t.k t.left c.bits.result (omega arith) t.invariant.width_left (c.bits.ensures ∙ ap bits_for c.attribute-attribute.ensures) in
    record {
      width_left = w;
      value_left = t.invariant.value_left ∙ in_rest a t.k t.rest _ (omega arith) w (let d = c.attribute-attribute.ensures in let f = c.holds_code.ensures in cc)
          ∙ ap (in_lists (drop (t.k + 1) (attrs_of a))) (sym c.low_bits-rest.ensures);
    }

pub returns : goal.returns
returns c =
    let t = c.loop-k in
    sym (t.invariant.value_left ∙ in-none c.args.class t.k t.rest (omega arith))
