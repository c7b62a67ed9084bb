-- `writer::formulas::put_formulas` meets its contract. The loop's invariant: the first f formulas are stored, in no more than 5108 bits each.
use mathlib.Core.Path.{◌≡◌, sym, ap}
use Prim.Native.Nat.{◌+◌}
use native.Mathlib.Omega.{arith}
use Rattle.bits.proofs.Packed.{length-tab}
use Rattle.format.proofs.Store.{stores-rows-begin, stores-rows-turn, stores-rows-stop, stores-given}
use Rattle.policy.specs.File.{formula_format}
use Rattle.policy.specs.Rules.{lists_of, nodes_of, formulas_of}
use Rattle.writer.proofs.formulas.put_formulas.Goals as goal

pub loop-f-init : goal.loop-f-init
unfolding formulas_of
loop-f-init c = (omega arith, stores-rows-begin _ _)

pub loop-f-preserved : goal.loop-f-preserved
unfolding formulas_of
loop-f-preserved c =
    let l = c.loop-f in
    let a = c.args in
    (omega (arith, c.in_ok-next.ensures.pos_bound), stores-rows-turn _ _ l.f (ap (formula_format (lists_of a.classes)) (sym (length-tab _ 0 l.f))) (ap (nodes_of a.nodes.now l.f) c.get_or-n.ensures) l.invariant.1 c.in_ok-next.ensures.stores)

pub returns-in_err-next-clause-stores : goal.returns-in_err-next-clause-stores
unfolding formulas_of
returns-in_err-next-clause-stores c =
    let l = c.loop-f in
    let a = c.args in
    stores-given c.from_residual.ensures.1
    (stores-rows-stop _ _ l.f _ c.loop-f-test.true (ap (formula_format (lists_of a.classes)) (sym (length-tab _ 0 l.f))) (ap (nodes_of a.nodes.now l.f) c.get_or-n.ensures) l.invariant.1
    c.in_err-next.ensures.stores)

pub returns-clause-stores : goal.returns-clause-stores
returns-clause-stores c =
    let l = c.loop-f in
    let e : l.f ≡ 4 + c.args.permissions = omega arith in
    rw e at l.invariant.1
