-- `formulas::table::place` meets its contract: the two stores.
use mathlib.Core.Path.{refl}
use Rattle.formulas.specs.Parts.{placed}
use Rattle.formulas.proofs.table.place.Goals as goal

pub returns : goal.returns
unfolding placed
returns c = refl
