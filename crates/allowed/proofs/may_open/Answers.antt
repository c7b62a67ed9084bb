-- `allowed::may_open` meets its contract: the formula for opening sessions, asked of the user's value.
use mathlib.Core.Path.{sym, ap, ◌∙◌}
use Prim.Native.Nat.{ℕ}
use Rattle.policy.specs.Rules.{policy_of}
use Rattle.allowed.specs.Allowed.{says, opening}
use Rattle.allowed.proofs.ModelLaws.{model-user-value, model-may-open}
use Rattle.allowed.proofs.may_open.Goals as goal

pub returns : goal.returns
returns c =
    let a = c.args in
    let p = policy_of a.rules in
    c.says.ensures
    ∙ ap (says p 0) (c.opening.ensures ∙ ap (λ (x : ℕ). opening x a.v) (c.user_value.ensures ∙ sym (model-user-value a.rules a.u)))
    ∙ sym (model-may-open p a.u a.v)
