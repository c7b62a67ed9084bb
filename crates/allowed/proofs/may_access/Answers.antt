-- `allowed::may_access` meets its contract: the formula of the permission.
use mathlib.Core.Path.{sym, ap, ◌∙◌}
use Prim.Native.Nat.{◌+◌}
use Rattle.policy.specs.Rules.{policy_of}
use Rattle.allowed.specs.Allowed.{says}
use Rattle.allowed.proofs.ModelLaws.{model-may-access}
use Rattle.allowed.proofs.may_access.Goals as goal

pub returns : goal.returns
returns c =
    let a = c.args in
    let p = policy_of a.rules in
    c.says.ensures ∙ ap (says p (4 + a.p)) c.accessing.ensures ∙ sym (model-may-access p a.p a.v a.o)
