-- `writer::values::put_value` meets its contract. The loop's invariant: whoever stores what is left by the attributes from i on has stored the
-- whole value; `rest` is how wide those attributes are, and each of the first i took no more than 255 bits.
use mathlib.Core.Path.{◌≡◌, sym, ap, ◌∙◌}
use native.Mathlib.Omega.{arith}
use Rattle.format.proofs.Store.{stores-given}
use Rattle.policy.specs.Policy.{width}
use Rattle.refusal.specs.Number.{number_of}
use Rattle.writer.proofs.Value.{from_all, width-turn, onward-begin, onward-turn, onward-stop, onward-end}
use Rattle.writer.proofs.values.put_value.Goals as goal

pub loop-i-init : goal.loop-i-init
loop-i-init c = let class = c.args.class in (omega arith, c.requires.1 ∙ ap width (sym (from_all class)), onward-begin class)

pub overflow_sub-rest : goal.overflow_sub-rest
overflow_sub-rest c =
    let l = c.loop-i in
    omega (arith, width-turn c.args.class l.i c.loop-i-test.true c.attribute-attribute.ensures c.bits-w.ensures l.invariant.1)

pub returns-in_err-next-clause-stores : goal.returns-in_err-next-clause-stores
unfolding number_of
returns-in_err-next-clause-stores c =
    let l = c.loop-i in
    stores-given c.from_residual.ensures.1
    (onward-stop c.args.class l.i c.loop-i-test.true c.attribute-attribute.ensures c.bits-w.ensures l.invariant.1 c.holds_code.ensures
    c.high_bits-y.ensures l.invariant.2 c.in_err-next.ensures.stores)

pub loop-i-preserved : goal.loop-i-preserved
unfolding number_of
loop-i-preserved c =
    let l = c.loop-i in
    let class = c.args.class in
    let wide = width-turn class l.i c.loop-i-test.true c.attribute-attribute.ensures c.bits-w.ensures l.invariant.1 in (
      omega (arith, c.in_ok-next.ensures.pos_bound),
      omega (arith, wide),
      onward-turn class l.i c.loop-i-test.true c.attribute-attribute.ensures c.bits-w.ensures l.invariant.1 c.holds_code.ensures
          c.high_bits-y.ensures l.invariant.2 c.low_bits-x.ensures c.in_ok-next.ensures.stores,
    )

pub returns-clause-stores : goal.returns-clause-stores
unfolding number_of
returns-clause-stores c =
    let l = c.loop-i in
    let e : l.i ≡ c.args.class.count = omega arith in
    onward-end c.args.class (rw e at l.invariant.2) c.put_field-2.ensures.stores
