-- `leaves::row_at` meets its contract: an earlier row with the same operands, or the comparison itself.
use mathlib.Core.Path.{ap₂, ◌∙◌}
use Rattle.lanes.proofs.Laws.{lanes-as}
use Rattle.planes.specs.Word.{compared_in}
use Rattle.planes.specs.declared.operand.Operand.{Operand}
use Rattle.leaves.proofs.row_at.Goals as goal

pub returns-then-j-i : goal.returns-then-j-i
returns-then-j-i c =
    let f = c.first_alike-j in
    let a = c.args in
    lanes-as _ _ _ c.load.ensures
    (λ v h.
    c.requires.filled.2.each f.result v c.if-j-i.true h
    ∙ ap₂ (λ (x y : Operand). compared_in a.op x y v) f.ensures.first_same f.ensures.second_same)
