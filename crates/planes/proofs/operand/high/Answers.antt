-- `planes::operand::high` meets its contract: a byte has nothing above its 8 bits.
use mathlib.Core.Path.{sym}
use native.Mathlib.Nat.{div-eq_of_lt}
use native.Mathlib.Omega.{arith}
use lib.Pow.{pow_mono}
use Rattle.planes.proofs.operand.high.Goals as goal

pub returns-else-k-lt8 : goal.returns-else-k-lt8
returns-else-k-lt8 c = sym (div-eq_of_lt (omega (arith, pow_mono c.if-k-lt8.false)))
