-- `planes::word::planes_of` meets its contract: six planes are the same in every word, and two are bits of the word's number.
use Rattle.planes.proofs.Words.{planes-whole}
use Rattle.planes.proofs.word.planes_of.Goals as goal

pub returns : goal.returns
returns c = planes-whole c.args.w c.whole.result c.whole-2.result c.requires c.whole.ensures c.whole-2.ensures
