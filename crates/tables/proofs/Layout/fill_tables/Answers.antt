-- `tables::Layout::fill_tables` meets its contract.
use mathlib.Core.Path.{◌∙◌}
use native.Mathlib.Omega.{arith}
use Rattle.tables.proofs.Filling.{times-later, table_is, tables_more}
use Rattle.tables.proofs.Layout.fill_tables.Goals as goal

pub table-requires : goal.table-requires
table-requires c =
    let room = c.args.self.now.room in
    omega (arith, c.table_at.ensures, table_is room c.loop-k.k, times-later room c.loop-k.k 64 (omega arith))

pub loop-k-preserved : goal.loop-k-preserved
loop-k-preserved c =
    let y = c.args.self.now in
    record {
      as_long = c.table.ensures.area_len_unchanged ∙ c.loop-k.invariant.as_long;
      filled = tables_more _ _ _ _ _ _ _ _ _ _ _ _ _ _ _ c.table_at.ensures c.at-node.ensures (omega (arith, y.rows_in_range, y.room_enough))
          (omega (arith, y.rows_told, y.room_enough)) (omega (arith, y.outers_told, y.room_enough)) c.loop-k.invariant.filled
          (rw c.at.ensures at c.table.ensures.table);
    }
