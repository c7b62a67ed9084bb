-- `planes::values_of` meets its contract: a word for each 64 numbers.
use Rattle.lanes.proofs.Words.{lanes-by}
use Rattle.planes.proofs.values_of.Goals as goal

pub returns : goal.returns
returns c = lanes-by _ _ _ _ _ c.values_word.ensures.each c.values_word-2.ensures.each c.values_word-3.ensures.each c.values_word-4.ensures.each
