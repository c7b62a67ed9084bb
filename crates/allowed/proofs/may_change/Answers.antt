-- `allowed::may_change` meets its contract: the formula for changing sessions, asked of the user's value.
use mathlib.Core.Path.{sym, ap, ◌∙◌}
use Prim.Native.Nat.{ℕ}
use Rattle.policy.specs.Rules.{policy_of}
use Rattle.allowed.specs.Allowed.{says, changing}
use Rattle.allowed.proofs.ModelLaws.{model-user-value, model-may-change}
use Rattle.allowed.proofs.may_change.Goals as goal

pub returns : goal.returns
returns c =
    let a = c.args in
    let p = policy_of a.rules in
    c.says.ensures
    ∙ ap (says p 1) (c.changing.ensures ∙ ap (λ (x : ℕ). changing x a.v a.w) (c.user_value.ensures ∙ sym (model-user-value a.rules a.u)))
    ∙ sym (model-may-change p a.u a.v a.w)
