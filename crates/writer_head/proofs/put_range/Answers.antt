-- `writer_head::put_range` meets its contract: the field was judged by whether its number is in the range.
use mathlib.Core.Path.{◌∙◌}
use Rattle.format.specs.Format.{within}
use Rattle.format.proofs.Chain.{within-range}
use Rattle.format.proofs.Store.{stores-field}
use Rattle.writer_head.proofs.put_range.Goals as goal

pub returns-clause-stores : goal.returns-clause-stores
returns-clause-stores g c = let a = c.args in stores-field a.w (within a.lo a.end) _ a.x (c.contains.ensures.value ∙ within-range a.lo a.end a.x) c.put_field.ensures.stores
