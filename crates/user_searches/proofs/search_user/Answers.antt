-- `search_user` meets its contract.
use Rattle.allowed_rows.specs.Basis.{rules_by}
use Rattle.allowed.proofs.ModelLaws.{model-users}
use borrow.Author.Tests.{lt-ltb, le-ltb}
use Rattle.user_searches.proofs.search_user.Goals as goal

pub returns-then-basis-u-clause-value : goal.returns-then-basis-u-clause-value
returns-then-basis-u-clause-value c =
    let a = c.args in simp (model-users (rules_by a.basis.now), le-ltb a.u a.basis.now.users.count c.if-basis-u.true) c.new.ensures

pub returns-clause-value : goal.returns-clause-value
returns-clause-value c =
    let a = c.args in simp (model-users (rules_by a.basis.now), lt-ltb a.u a.basis.now.users.count c.if-basis-u.false) c.user_values.ensures.value
