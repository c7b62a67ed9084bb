-- `leaves::values::says` meets its contract: the field is the second operand, or the first.
use mathlib.Core.Path.{◌∙◌}
use Rattle.leaves.proofs.Joins.{sided-second, sided-first}
use Rattle.leaves.proofs.values.says.Goals as goal

pub returns-then-second : goal.returns-then-second
returns-then-second c = let a = c.args in c.compare.ensures ∙ sided-second a.second a.op a.x a.m a.y a.n c.if-second.true

pub returns : goal.returns
returns c = let a = c.args in c.compare-2.ensures ∙ sided-first a.second a.op a.x a.m a.y a.n c.if-second.false
