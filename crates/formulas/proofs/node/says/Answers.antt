-- `formulas::node::says` meets its contract: the operators from 5 on join nothing, and those below compare nothing.
use mathlib.Core.Path.{sym, ◌∙◌}
use Rattle.formulas.proofs.Laws.{joined-below, joined-above}
use Rattle.formulas.proofs.node.says.Goals as goal

pub returns-in-Some : goal.returns-in-Some
returns-in-Some c = let a = c.args in c.in-Some.ensures.1 ∙ joined-below a.before.now a.node _ _ c.in-Some.ensures.0

pub returns-in-None : goal.returns-in-None
returns-in-None c = let a = c.args in c.compares.ensures ∙ sym (joined-above a.before.now a.node _ c.in-None.ensures)
