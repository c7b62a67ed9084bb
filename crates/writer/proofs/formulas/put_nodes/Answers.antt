-- `writer::formulas::put_nodes` meets its contract. The loop's invariant: the first i nodes are stored, in no more than 20 bits each.
use mathlib.Core.Path.{◌≡◌, sym, ap}
use native.Mathlib.Omega.{arith}
use Rattle.bits.proofs.Packed.{length-tab}
use Rattle.format.proofs.Store.{stores-rows-begin, stores-rows-turn, stores-rows-stop, stores-given}
use Rattle.policy.specs.File.{node_format}
use Rattle.policy.specs.Rules.{lists_of, nodes_of}
use Rattle.writer.proofs.formulas.put_nodes.Goals as goal

pub loop-i-init : goal.loop-i-init
unfolding nodes_of
loop-i-init c = (omega arith, stores-rows-begin _ _)

pub loop-i-preserved : goal.loop-i-preserved
unfolding nodes_of
loop-i-preserved c =
    let l = c.loop-i in
    let a = c.args in
    (omega (arith, c.in_ok-next.ensures.pos_bound), stores-rows-turn _ _ l.i (ap (node_format (lists_of a.classes) a.f) (sym (length-tab _ 0 l.i))) c.get_or-x.ensures l.invariant.1 c.in_ok-next.ensures.stores)

pub returns-in_err-next-clause-stores : goal.returns-in_err-next-clause-stores
unfolding nodes_of
returns-in_err-next-clause-stores c =
    let l = c.loop-i in
    let a = c.args in
    stores-given c.from_residual.ensures.1
    (stores-rows-stop _ _ l.i _ c.loop-i-test.true (ap (node_format (lists_of a.classes) a.f) (sym (length-tab _ 0 l.i))) c.get_or-x.ensures l.invariant.1 c.in_err-next.ensures.stores)

pub returns-clause-stores : goal.returns-clause-stores
returns-clause-stores c =
    let l = c.loop-i in
    let e : l.i ≡ c.args.n = omega arith in
    rw e at l.invariant.1
