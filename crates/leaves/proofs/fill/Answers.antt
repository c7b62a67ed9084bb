-- `leaves::fill` meets its contract: the comparison by its operands is what the node says.
use native.Mathlib.Omega.{arith}
use Rattle.policy.specs.Nodes.{op_of, first_of, second_of}
use Rattle.policy.specs.Rules.{lists_of}
use Rattle.sides.proofs.Sides.{leaf-is}
use Rattle.leaves.proofs.Filled.{rows_as}
use Rattle.leaves.proofs.fill.Goals as goal

pub returns : goal.returns
unfolding op_of first_of second_of
returns c =
    let w = c.fill_rows in
    let a = c.args in record {
      rows = rows_as a.base a.count _ _ _ _ w.ensures.rows
          (λ i v l h. leaf-is (lists_of a.classes) a.lane a.row a.node _ _ c.side_of-x.ensures c.side_of-y.ensures i v (omega (arith, c.requires.0)) h);
      area_len_unchanged = w.ensures.area_len_unchanged;
    }
