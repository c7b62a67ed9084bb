-- `format::bit_reader::found_at` meets its contract: the field is the one at the place, and each of the two answers has its next place.
use Rattle.format.specs.Reader.{found_at}
use Rattle.format.proofs.bit_reader.found_at.Goals as goal

pub returns-in-Some : goal.returns-in-Some
unfolding found_at
returns-in-Some c = simp (← c.field_at-f.ensures, c.in-Some.is)

pub returns-in-None : goal.returns-in-None
unfolding found_at
returns-in-None c = simp (← c.field_at-f.ensures, c.in-None.is)
