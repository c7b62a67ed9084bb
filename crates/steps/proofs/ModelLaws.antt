-- The model of rules has counts and lists as the rules in memory hold them.
use mathlib.Core.Path.{◌≡◌, ap}
use Prim.Native.Nat.{ℕ}
use Rattle.policy.specs.Rules.{attrs_of, lists_of, policy_of}
use Rattle.policy.specs.declared.Rules.{Rules}
use Rattle.policy.proofs.Laws.{values_length}
use Rattle.lists.specs.Lists.{listed}
use Rattle.runs.specs.Model.{Model}
use Rattle.allowed.specs.Allowed.{model_of}

-- the model, its parts as the rules in memory hold them
abbrev pub model_in : Rules → Model
model_in r =
    let m = model_of (policy_of r) in
    record {
      users = r.users.count;
      permissions = r.permissions;
      session_value = listed (attrs_of r.classes.session);
      item_value = listed (attrs_of r.classes.item);
      may_open = m.may_open;
      may_change = m.may_change;
      may_make = m.may_make;
      may_modify = m.may_modify;
      may_access = m.may_access;
    }

pub model_in_lem : (r : Rules) → model_of (policy_of r) ≡ model_in r
unfolding model_of policy_of lists_of
model_in_lem r =
    let m = model_in r in
    ap
    (λ (n : ℕ).
    record {
      users = n;
      permissions = m.permissions;
      session_value = m.session_value;
      item_value = m.item_value;
      may_open = m.may_open;
      may_change = m.may_change;
      may_make = m.may_make;
      may_modify = m.may_modify;
      may_access = m.may_access;
    })
    (values_length r.users)
