-- `cells::Row::of` meets its contract: a mask of ones cuts a number to its last bits.
use Rattle.cells.proofs.Rows.{parts-masked}
use Rattle.cells.proofs.row.Row.of.Goals as goal

pub returns : goal.returns
returns c = parts-masked c.args.x
