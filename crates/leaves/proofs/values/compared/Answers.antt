-- `leaves::values::compared` meets its contract: by the values of the first operand, by those of the second, or otherwise.
use mathlib.Core.Path.{subst}
use Rattle.leaves.specs.Ways.{Few, Laid}
use Rattle.leaves.specs.declared.values.Way.{Way}
use Rattle.leaves.proofs.Joins.{joined-first, joined-second}
use Rattle.leaves.proofs.values.compared.Goals as goal

pub returns-in-First : goal.returns-in-First
returns-in-First c =
    let a = c.args in
    let f : Few c.in-First.f a.x a.y a.hot.now = subst (λ (w : Way). Laid w a.x a.y a.hot.now) c.in-First.is c.requires.1 in
    joined-first _ a.x a.y a.hot.now f a.op a.i _ _ c.operand_at-b.ensures c.joined.ensures

pub returns-in-Second : goal.returns-in-Second
returns-in-Second c =
    let a = c.args in
    let f : Few c.in-Second.f a.y a.x a.hot.now = subst (λ (w : Way). Laid w a.x a.y a.hot.now) c.in-Second.is c.requires.1 in
    joined-second _ a.y a.x a.hot.now f a.op a.i _ _ c.operand_at-a.ensures c.joined-in-Second.ensures
