-- `allowed_rows::Basis::outer_value` meets its contract: of openings and changes of sessions the user's value.
use mathlib.Core.Path.{sym, ◌∙◌}
use mathlib.Core.Logic.{inl, inr}
use Rattle.allowed.proofs.ModelLaws.{model-user-value}
use Rattle.allowed_rows.specs.Basis.{rules_by}
use Rattle.allowed_rows.proofs.Basis.outer_value.Goals as goal

pub returns-in-Open : goal.returns-in-Open
returns-in-Open c =
    let v = c.user_value.ensures ∙ sym (model-user-value (rules_by c.args.self.now) c.args.outer) in
    elim c.in-Open.is [ inl e ↦ rw e v | inr e ↦ rw e v ]
