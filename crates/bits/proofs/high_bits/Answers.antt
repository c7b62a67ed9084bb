-- `bits::high_bits` meets its contract: a number has 64 bits, so that nothing is left without them.
use mathlib.Core.Path.{sym}
use native.Mathlib.Omega.{arith}
use Rattle.bits.proofs.Laws.{none_above}
use Rattle.bits.proofs.high_bits.Goals as goal

pub returns-else-k-lt64 : goal.returns-else-k-lt64
returns-else-k-lt64 c = sym (none_above c.args.x 64 c.args.k (omega arith) c.if-k-lt64.false)
