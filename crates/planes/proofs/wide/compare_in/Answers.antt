-- `planes::wide::compare_in` meets its contract: the planes are those of the word.
use Rattle.planes.proofs.Words.{told-word}
use Rattle.planes.proofs.wide.compare_in.Goals as goal

pub returns : goal.returns
returns c = told-word _ _ _ _ c.planes_of-planes.ensures c.compare.ensures
