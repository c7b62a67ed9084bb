-- What rules allow: the published meaning of the monitor, as a model of runs (001's Table 2, and Table 3's conditions).
-- Total for all rules: a formula that is not there is false, and a user that is not there has value 0.
-- Assumes nothing.
use Rattle.std.specs.Prelude.{Bool, [], ℕ, ◌+◌, length, get_or}
use Rattle.policy.specs.Policy.{Policy}
use Rattle.formulas.specs.Meaning.{holds}
use Rattle.formulas.specs.declared.Holders.{Holders}
use Rattle.runs.specs.Model.{Model}
use Rattle.lists.specs.Lists.{listed}

-- what formula f says: 0 open session, 1 change session, 2 make item, 3 change item, 4 and on the permissions
unfoldable pub says : Policy → ℕ → Holders → Bool
says p f h = holds p.lists h (get_or p.formulas f [])

-- the holders that no formula asks about have value 0
unfoldable pub opening : ℕ → ℕ → Holders
opening user new = record { user = user; session = 0; newsession = new; item = 0; newitem = 0 }

unfoldable pub changing : ℕ → ℕ → ℕ → Holders
changing user old new = record { user = user; session = old; newsession = new; item = 0; newitem = 0 }

unfoldable pub making : ℕ → ℕ → Holders
making session new = record { user = 0; session = session; newsession = 0; item = 0; newitem = new }

unfoldable pub modifying : ℕ → ℕ → ℕ → Holders
modifying session old new = record { user = 0; session = session; newsession = 0; item = old; newitem = new }

unfoldable pub accessing : ℕ → ℕ → Holders
accessing session item = record { user = 0; session = session; newsession = 0; item = item; newitem = 0 }

-- the value of user u
unfoldable pub user_value : Policy → ℕ → ℕ
user_value p u = get_or p.users u 0

-- what the rules allow
unfoldable pub model_of : Policy → Model
model_of p =
    record {
      users = length p.users;
      permissions = p.head.permissions;
      session_value = listed p.lists.of_session;
      item_value = listed p.lists.of_item;
      may_open = λ u v. says p 0 (opening (user_value p u) v);
      may_change = λ u v w. says p 1 (changing (user_value p u) v w);
      may_make = λ v o. says p 2 (making v o);
      may_modify = λ v o n. says p 3 (modifying v o n);
      may_access = λ k v o. says p (4 + k) (accessing v o);
    }
