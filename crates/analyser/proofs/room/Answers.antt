-- `analyser::room` meets its contract.
use native.Mathlib.Omega.{arith}
use Rattle.bits.proofs.Laws.{ones}
use lib.Pow.{pow_mono}
use Rattle.analyser.proofs.room.Goals as goal

pub returns : goal.returns
returns c = (ones c.args.s (omega arith), omega (arith, ones c.args.s (omega arith), pow_mono {i = c.args.s} {j = 8} (omega arith)))
