-- Laws of the model, for callers. In order: of rules in memory its counts, the values in the lists and those of users; of any policy the same, and what
-- each formula is asked; policies with the same model: other starts, no list numbers.
use mathlib.Core.Path.{◌≡◌, refl}
use mathlib.Core.Bool.{Bool, true, false, cond}
use mathlib.Core.List.{[]}
use Prim.Native.Nat.{ℕ, ◌+◌}
use lib.Dec.{leb, eqb}
use lib.ListN.{length, get_or}
use Rattle.policy.specs.Policy.{unlisted, Policy}
use Rattle.policy.specs.Nodes.{of_holder}
use Rattle.policy.specs.Rules.{attrs_of, lists_of, values_of, policy_of}
use Rattle.policy.specs.declared.Rules.{Rules}
use Rattle.policy.proofs.Laws.{values_length}
use Rattle.lists.specs.Lists.{listed}
use Rattle.lists.proofs.Laws.{listed-unlisted}
use Rattle.formulas.specs.declared.Holders.{Holders}
use Rattle.formulas.proofs.ListLaws.{holds_same}
use Rattle.allowed.specs.Allowed.{says, opening, changing, making, modifying, accessing, user_value, model_of}
use Rattle.allowed.specs.Claims.{unlisted_policy}

module _ (r : Rules) where
  pub model-users : (model_of (policy_of r)).users ≡ r.users.count
  unfolding model_of policy_of
  model-users = values_length r.users

  pub model-permissions : (model_of (policy_of r)).permissions ≡ r.permissions
  unfolding model_of policy_of
  model-permissions = refl

  pub model-session-value : (model_of (policy_of r)).session_value ≡ listed (attrs_of r.classes.session)
  unfolding model_of policy_of lists_of
  model-session-value = refl

  pub model-item-value : (model_of (policy_of r)).item_value ≡ listed (attrs_of r.classes.item)
  unfolding model_of policy_of lists_of
  model-item-value = refl

  pub model-user-value : (u : ℕ) → user_value (policy_of r) u ≡ get_or (values_of r.users) u 0
  unfolding user_value policy_of
  model-user-value u = refl

module _ (p : Policy) where
  pub model-user-count : (model_of p).users ≡ length p.users
  unfolding model_of
  model-user-count = refl

  pub model-session-listed : (v : ℕ) → (model_of p).session_value v ≡ listed p.lists.of_session v
  unfolding model_of
  model-session-listed v = refl

  pub model-item-listed : (o : ℕ) → (model_of p).item_value o ≡ listed p.lists.of_item o
  unfolding model_of
  model-item-listed o = refl

  pub model-may-open : (u v : ℕ) → (model_of p).may_open u v ≡ says p 0 (opening (user_value p u) v)
  unfolding model_of
  model-may-open u v = refl

  pub model-may-change : (u v w : ℕ) → (model_of p).may_change u v w ≡ says p 1 (changing (user_value p u) v w)
  unfolding model_of
  model-may-change u v w = refl

  pub model-may-make : (v o : ℕ) → (model_of p).may_make v o ≡ says p 2 (making v o)
  unfolding model_of
  model-may-make v o = refl

  pub model-may-modify : (v o n : ℕ) → (model_of p).may_modify v o n ≡ says p 3 (modifying v o n)
  unfolding model_of
  model-may-modify v o n = refl

  pub model-may-access : (k v o : ℕ) → (model_of p).may_access k v o ≡ says p (4 + k) (accessing v o)
  unfolding model_of
  model-may-access k v o = refl

-- what stands at the start makes no difference to what is allowed
pub model-same : (p q : Policy) → p.head.permissions ≡ q.head.permissions → p.users ≡ q.users → p.lists ≡ q.lists → p.formulas ≡ q.formulas
    → model_of p ≡ model_of q
unfolding model_of says user_value
model-same p q a b c d = rw (a, b, c, d) refl

-- list numbers make no difference either

holder-unlisted : (p : Policy) (h : ℕ) → of_holder (unlisted_policy p).lists h ≡ unlisted (of_holder p.lists h)
unfolding of_holder
holder-unlisted p h = go (eqb h 0) (leb h 2)
  where
    go : (a b : Bool) → cond a (unlisted p.lists.of_user) (cond b (unlisted p.lists.of_session) (unlisted p.lists.of_item))
        ≡ unlisted (cond a p.lists.of_user (cond b p.lists.of_session p.lists.of_item))
    go true b = refl
    go false true = refl
    go false false = refl

says-unlisted : (p : Policy) (f : ℕ) (h : Holders) → says (unlisted_policy p) f h ≡ says p f h
unfolding says
says-unlisted p f h = holds_same p.lists (unlisted_policy p).lists (holder-unlisted p) h (get_or p.formulas f [])

pub model-unlisted : (p : Policy) → model_of (unlisted_policy p) ≡ model_of p
unfolding model_of user_value
model-unlisted p =
    λ i.
    record {
      users = length p.users;
      permissions = p.head.permissions;
      session_value = λ v. listed-unlisted p.lists.of_session v i;
      item_value = λ o. listed-unlisted p.lists.of_item o i;
      may_open = λ u v. says-unlisted p 0 (opening (user_value p u) v) i;
      may_change = λ u v w. says-unlisted p 1 (changing (user_value p u) v w) i;
      may_make = λ v o. says-unlisted p 2 (making v o) i;
      may_modify = λ v o n. says-unlisted p 3 (modifying v o n) i;
      may_access = λ k v o. says-unlisted p (4 + k) (accessing v o) i;
    }
