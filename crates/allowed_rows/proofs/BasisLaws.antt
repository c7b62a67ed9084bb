-- For callers: what rules allow is what their basis allows.
use mathlib.Core.Path.{◌≡◌, refl}
use Rattle.policy.specs.Rules.{policy_of}
use Rattle.policy.specs.declared.Rules.{Rules}
use Rattle.allowed.specs.Allowed.{says, user_value, model_of}
use Rattle.allowed_rows.specs.Basis.{BasisOf, model_by, InLists}
use Rattle.allowed_rows.specs.declared.Basis.{Basis}

module _ (r : Rules) (b : Basis) (B : BasisOf r b) where
  pub basis-model : model_by b ≡ model_of (policy_of r)
  unfolding model_of says user_value policy_of
  basis-model = rw (B.classes, B.users, B.permissions, B.lengths, B.nodes) refl

  pub basis-lists : InLists b
  basis-lists =
      record {
        sessions = rw basis-model B.sessions;
        items = rw basis-model B.items;
      }
