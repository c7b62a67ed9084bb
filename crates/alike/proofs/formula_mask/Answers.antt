-- `alike::formula_mask` meets its contract. The loop's invariant: m has the bits of the first k nodes.
use Prim.Native.Nat.{◌+◌, ◌*◌}
use native.Mathlib.Omega.{arith}
use lib.ListN.{get_or}
use Rattle.alike.proofs.Masks.{nodes-more}
use Rattle.alike.proofs.formula_mask.Goals as goal

pub loop-k-init : goal.loop-k-init
loop-k-init c = λ i l. absurd (omega arith)

pub loop-k-preserved : goal.loop-k-preserved
loop-k-preserved c =
    let l = c.loop-k in
    let a = c.args in
    nodes-more a.shifts.now a.bits.now (λ i. get_or a.nodes.now (64 * a.f + i) 0) l.k l.m c.node_mask-m.result _ l.invariant
    c.node_mask-m.ensures c.at.ensures

pub returns : goal.returns
returns c = λ k l. c.loop-k.invariant k (omega arith)
