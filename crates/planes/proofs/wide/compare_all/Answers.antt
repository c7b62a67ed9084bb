-- `planes::wide::compare_all` meets its contract: the first word is the answer in all, or each word has its own.
use mathlib.Core.Path.{◌∙◌}
use Rattle.lanes.proofs.Words.{lanes-by}
use Rattle.planes.specs.SetComparison.{operator}
use Rattle.planes.specs.Word.{compared_in}
use Rattle.planes.proofs.Comparisons.{compared-alike}
use Rattle.planes.proofs.wide.compare_all.Goals as goal

pub returns-then-alike-2 : goal.returns-then-alike-2
returns-then-alike-2 c =
    let a = c.args in
    let W = c.compare_in-first.ensures in
    let same = compared-alike (operator a.by) a.x a.y (c.alike.ensures c.if-alike.true) (c.alike-then-alike.ensures c.if-alike-2.true) in
    let r = c.compare_in-first.result in
    lanes-by (compared_in (operator a.by) a.x a.y) r r r r W.each (λ j h. W.each j h ∙ same 0 1 j h) (λ j h. W.each j h ∙ same 0 2 j h) (λ j h. W.each j h ∙ same 0 3 j h)

pub returns : goal.returns
returns c =
    let a = c.args in
    lanes-by (compared_in (operator a.by) a.x a.y) _ _ _ _ c.compare_in-first.ensures.each c.compare_in.ensures.each c.compare_in-2.ensures.each c.compare_in-3.ensures.each
