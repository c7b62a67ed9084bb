-- `leaves::values::once` meets its contract: the operands have the same numbers in all lanes.
use mathlib.Core.Path.{sym, ◌∙◌}
use Rattle.lanes.proofs.Laws.{lanes-as}
use Rattle.leaves.proofs.Joins.{plain-operands}
use Rattle.leaves.proofs.values.once.Goals as goal

pub returns-then-compare : goal.returns-then-compare
returns-then-compare c =
    let a = c.args in
    let told = sym c.if-compare.true ∙ c.compare.ensures in
    lanes-as _ _ _ c.all.ensures (λ v h. told ∙ plain-operands a.op a.x a.y c.requires.0 c.requires.1 v)

pub returns : goal.returns
returns c =
    let a = c.args in
    let told = sym c.if-compare.false ∙ c.compare.ensures in
    lanes-as _ _ _ c.none.ensures (λ v h. told ∙ plain-operands a.op a.x a.y c.requires.0 c.requires.1 v)
