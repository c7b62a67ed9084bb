-- `lanes::all` meets its contract: every bit of the word of ones is set.
use Rattle.lanes.proofs.Bits.{bit-ones}
use Rattle.lanes.proofs.Words.{lanes-by}
use Rattle.lanes.proofs.all.Goals as goal

pub returns : goal.returns
returns c = lanes-by _ _ _ _ _ bit-ones bit-ones bit-ones bit-ones
