-- `alike::node_mask` meets its contract: no bits for a node that joins, those of both operands for a comparison.
use Rattle.policy.specs.Nodes.{op_of, first_of, second_of}
use Rattle.alike.proofs.Masks.{node-none, node-both}
use Rattle.alike.proofs.node_mask.Goals as goal

pub returns-then-node-lt5 : goal.returns-then-node-lt5
unfolding op_of
returns-then-node-lt5 c = let a = c.args in node-none a.shifts.now a.bits.now a.node 0 c.if-node-lt5.true

pub returns : goal.returns
unfolding first_of second_of
returns c =
    let a = c.args in
    node-both a.shifts.now a.bits.now a.node _ _ c.field_mask.ensures c.field_mask-2.ensures
