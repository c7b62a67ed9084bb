-- `bitsets::bit` meets its contract: it is the definition of a bit of a row.
use mathlib.Core.Path.{refl}
use Rattle.lanes.specs.Lanes.{bit_of}
use Rattle.bitsets.specs.Rows.{bit_at}
use Rattle.bitsets.proofs.bit.Goals as goal

pub returns : goal.returns
unfolding bit_at bit_of
returns c = refl
