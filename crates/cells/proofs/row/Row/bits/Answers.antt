-- `cells::Row::bits` meets its contract: a mask and a shift place each part; each fits its field, so that the sum fits 64 bits.
use native.Mathlib.Omega.{arith}
use Rattle.cells.proofs.Rows.{kind-placed, actor-placed, target-placed, value-placed, spare-placed, bits_are}
use Rattle.cells.proofs.row.Row.bits.Goals as goal

pub returns : goal.returns
returns c = bits_are c.args.row

pub overflow_add-result : goal.overflow_add-result
overflow_add-result c = let r = c.args.row in omega (arith, kind-placed r, actor-placed r)

pub overflow_add-result-2 : goal.overflow_add-result-2
overflow_add-result-2 c = let r = c.args.row in omega (arith, kind-placed r, actor-placed r, target-placed r)

pub overflow_add-result-3 : goal.overflow_add-result-3
overflow_add-result-3 c = let r = c.args.row in omega (arith, kind-placed r, actor-placed r, target-placed r, value-placed r)

pub overflow_add-result-4 : goal.overflow_add-result-4
overflow_add-result-4 c = let r = c.args.row in omega (arith, kind-placed r, actor-placed r, target-placed r, value-placed r, spare-placed r)
