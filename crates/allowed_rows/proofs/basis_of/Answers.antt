-- `allowed_rows::basis_of` meets its contract.
use mathlib.Core.Path.{refl}
use Rattle.allowed.proofs.ModelLaws.{model-session-value, model-item-value}
use Rattle.allowed_rows.proofs.basis_of.Goals as goal

pub returns : goal.returns
returns c =
    let r = c.args.rules.now in
    record {
      classes = refl;
      users = refl;
      permissions = refl;
      lengths = refl;
      nodes = refl;
      sessions = rw (model-session-value r) c.values_of.ensures;
      items = rw (model-item-value r) c.values_of-2.ensures;
    }
