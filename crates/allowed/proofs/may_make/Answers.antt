-- `allowed::may_make` meets its contract: the formula for making items.
use mathlib.Core.Path.{sym, ap, ◌∙◌}
use Rattle.policy.specs.Rules.{policy_of}
use Rattle.allowed.specs.Allowed.{says}
use Rattle.allowed.proofs.ModelLaws.{model-may-make}
use Rattle.allowed.proofs.may_make.Goals as goal

pub returns : goal.returns
returns c =
    let a = c.args in
    let p = policy_of a.rules in
    c.says.ensures ∙ ap (says p 2) c.making.ensures ∙ sym (model-may-make p a.v a.o)
