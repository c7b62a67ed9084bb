-- `reader::values::read_value` meets its contract: each attribute's value that is read is one more part of the value.
use mathlib.Core.Path.{◌≡◌, sym, ap, ◌∙◌}
use Prim.Native.Nat.{◌+◌, ◌*◌, ◌%◌, ◌^◌, ◌≤◌}
use native.Mathlib.Nat.{mod-eq_of_lt}
use native.Mathlib.Omega.{arith}
use Rattle.refusal.specs.Number.{number_of}
use Rattle.format.proofs.Chain.{field-stops, field-holds, field-fails, refused, refuses}
use Rattle.policy.specs.Policy.{bits_for}
use Rattle.policy.specs.Rules.{attr_at}
use Rattle.reader.proofs.Value.{partly-none, partly-room, partly-more, partly-stops, partly-below, partly-all}
use Rattle.reader.proofs.values.read_value.Goals as goal
use Rattle.reader.proofs.values.read_value.Goals.{After-bits-w}

-- the next attribute's bits
bits-of : (c : After-bits-w) → c.bits-w.result ≡ bits_for (attr_at c.args.class c.loop-i.i)
bits-of c = c.bits-w.ensures ∙ ap bits_for c.attribute-attribute.ensures

-- there is room for the next attribute's value
room : (c : After-bits-w) → (c.bits-w.result ≤ 8) × (c.loop-i.value * 2 ^ c.bits-w.result + 2 ^ c.bits-w.result ≤ 256)
room c =
    let a = c.args in
    let l = c.loop-i in
    partly-room a.class a.reader.now l.reader l.value l.i c.bits-w.result (omega arith) l.invariant (bits-of c)

pub loop-i-init : goal.loop-i-init
loop-i-init c = partly-none c.args.class c.args.reader.now (c.requires.1.wide)

pub take-requires : goal.take-requires
take-requires c = let r = room (goal.at.take-requires c).After-bits-w in (omega arith, omega (arith, c.loop-i.invariant.place))

pub returns-in_err-x : goal.returns-in_err-x
returns-in_err-x c =
    let a = c.args in
    let l = c.loop-i in
    let one = field-stops _ _ 6 c.in_err-x.ensures.reads in
    let all = partly-stops a.class a.reader.now l.reader l.value l.i c.bits-w.result (omega arith) l.invariant (bits-of (goal.at.returns-in_err-x c).After-bits-w) _ one in
    record { reads = refused _ c.from_residual.result c.from_residual.ensures.1 all (omega arith) }

pub returns-then-not-holds_code : goal.returns-then-not-holds_code
unfolding number_of
returns-then-not-holds_code c =
    let a = c.args in
    let l = c.loop-i in
    let one = field-fails _ _ _ c.in_ok-x.ensures.reads (sym (rw c.attribute-attribute.ensures at c.holds_code.ensures) ∙ c.if-not-holds_code.true) in
    record { reads = refuses _ (partly-stops a.class a.reader.now l.reader l.value l.i c.bits-w.result (omega arith) l.invariant (bits-of (goal.at.returns-then-not-holds_code c).After-bits-w) _ one) (omega arith) }

pub overflow_shl-value : goal.overflow_shl-value
overflow_shl-value c = let r = room (goal.at.overflow_shl-value c).After-bits-w in omega arith

pub overflow_add-value : goal.overflow_add-value
overflow_add-value c =
    let r = room (goal.at.overflow_add-value c).After-bits-w in
    omega (arith, c.in_ok-x.ensures.fits)

pub loop-i-preserved : goal.loop-i-preserved
loop-i-preserved c =
    let a = c.args in
    let l = c.loop-i in
    let w = c.bits-w.result in
    let r = room (goal.at.loop-i-preserved c).After-bits-w in
    let exact : l.value * 2 ^ w % 18446744073709551616 ≡ l.value * 2 ^ w = mod-eq_of_lt (omega arith) in
    let one = field-holds _ _ 6 c.in_ok-x.ensures.reads (sym (rw c.attribute-attribute.ensures at c.holds_code.ensures) ∙ c.if-not-holds_code.false) in
    rw exact (partly-more a.class a.reader.now l.reader l.value l.i w (omega arith) l.invariant (bits-of (goal.at.loop-i-preserved c).After-bits-w) _ _ one c.in_ok-x.ensures.fits)

pub overflow_cast-result : goal.overflow_cast-result
overflow_cast-result c = let l = c.loop-i in omega (arith, partly-below c.args.class c.args.reader.now l.reader l.value l.i (omega arith) l.invariant)

pub returns : goal.returns
returns c = let l = c.loop-i in record { reads = partly-all c.args.class c.args.reader.now l.reader l.value l.i (omega arith) l.invariant }
