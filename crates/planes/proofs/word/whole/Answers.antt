-- `planes::word::whole` meets its contract: every bit is set, or none is.
use mathlib.Core.Path.{sym, ◌∙◌}
use Rattle.planes.proofs.Words.{word-all, word_none}
use Rattle.planes.proofs.word.whole.Goals as goal

pub returns-then-b : goal.returns-then-b
returns-then-b c w = record { each = λ j h. (word-all w).each j h ∙ sym c.if-b.true }

pub returns-else-b : goal.returns-else-b
returns-else-b c w = record { each = λ j h. (word_none w).each j h ∙ sym c.if-b.false }
