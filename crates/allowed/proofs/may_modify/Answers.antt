-- `allowed::may_modify` meets its contract: the formula for changing items.
use mathlib.Core.Path.{sym, ap, ◌∙◌}
use Rattle.policy.specs.Rules.{policy_of}
use Rattle.allowed.specs.Allowed.{says}
use Rattle.allowed.proofs.ModelLaws.{model-may-modify}
use Rattle.allowed.proofs.may_modify.Goals as goal

pub returns : goal.returns
returns c =
    let a = c.args in
    let p = policy_of a.rules in
    c.says.ensures ∙ ap (says p 3) c.modifying.ensures ∙ sym (model-may-modify p a.v a.o a.n)
