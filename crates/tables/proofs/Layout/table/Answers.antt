-- `tables::Layout::table` meets its contract.
use native.Mathlib.Omega.{arith}
use Rattle.policy.specs.Nodes.{op_of}
use Rattle.policy.specs.Rules.{lists_of}
use Rattle.tables.proofs.Filling.{rows_few, table_none, table_filled}
use Rattle.tables.proofs.Layout.table.Goals as goal

pub returns-then-node-lt5-clause-table : goal.returns-then-node-lt5-clause-table
unfolding op_of
returns-then-node-lt5-clause-table c = table_none _ _ _ _ _ _ _ _ _ _ c.if-node-lt5.true

pub fill-requires : goal.fill-requires
fill-requires c =
    let y = c.args.self.now in
    let on = c.args.on in
    let w = rows_few (lists_of y.classes) y.lane y.row y.outer y.room (omega (arith, y.rows_in_range, y.room_enough))
    (omega (arith, y.rows_told, y.room_enough)) (omega (arith, y.outers_told, y.room_enough)) on.lane on.row on.outer in
    (omega (arith, w, c.rows_for.ensures, y.room_enough, y.rows_in_range, y.outers_in_range), omega (arith, w, c.rows_for.ensures))

pub returns-clause-table : goal.returns-clause-table
returns-clause-table c = table_filled _ _ _ _ _ _ _ _ _ _ _ _ _ _ c.rows_for.ensures c.lane_for.ensures c.row_for.ensures c.fill.ensures.rows
