-- What formulas are asked by: their nodes, which are lent, and the rest, which is small and is made once for a file.
-- Assumes nothing.
use Rattle.std.specs.Prelude.{◌≡◌, []}
use Rattle.lanes.specs.Lanes.{Lanes}
use Rattle.policy.specs.Rules.{policy_of}
use Rattle.policy.specs.declared.Rules.{Rules}
use Rattle.runs.specs.Model.{Model}
use Rattle.allowed.specs.Allowed.{model_of}
use Rattle.allowed_rows.specs.declared.Basis.{Basis}

-- b has of the rules all that their formulas are asked by, and the values in the lists
pub record BasisOf (r : Rules) (b : Basis) : Type 0 where
  pub classes : b.classes ≡ r.classes
  pub users : b.users ≡ r.users
  pub permissions : b.permissions ≡ r.permissions
  pub lengths : b.lengths ≡ r.lengths
  pub nodes : b.nodes.now ≡ r.nodes
  pub sessions : Lanes (model_of (policy_of r)).session_value b.sessions
  pub items : Lanes (model_of (policy_of r)).item_value b.items

-- the rules with that basis that start with no session and no item
abbrev pub rules_by : Basis → Rules
rules_by b =
    record {
      classes = b.classes;
      users = b.users;
      sessions = record { count = 0; sessions = [] };
      items = record { count = 0; values = [] };
      permissions = b.permissions;
      lengths = b.lengths;
      nodes = b.nodes.now;
    }

-- what they allow: starting sessions and items make no difference to it
abbrev pub model_by : Basis → Model
model_by b = model_of (policy_of (rules_by b))

-- the sets of b are the values in its lists
pub record InLists (b : Basis) : Type 0 where
  pub sessions : Lanes (model_by b).session_value b.sessions
  pub items : Lanes (model_by b).item_value b.items
