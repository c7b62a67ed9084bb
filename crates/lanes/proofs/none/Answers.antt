-- `lanes::none` meets its contract: no bit of 0 is set.
use Rattle.lanes.proofs.Bits.{bit-zero}
use Rattle.lanes.proofs.Words.{lanes-by}
use Rattle.lanes.proofs.none.Goals as goal

pub returns : goal.returns
returns c = lanes-by _ _ _ _ _ (λ j h. bit-zero j) (λ j h. bit-zero j) (λ j h. bit-zero j) (λ j h. bit-zero j)
