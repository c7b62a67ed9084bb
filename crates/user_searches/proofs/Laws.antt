-- Laws of the searches of all users. In order: what a loop over them fills; users with the same value have the same search.
use mathlib.Core.Path.{◌≡◌, sym, ap, ap₂, ◌∙◌, subst}
use mathlib.Core.Bool.{Bool, true, ◌&&◌, cond}
use mathlib.Core.List.{List}
use Prim.Native.Nat.{ℕ, ◌+◌, ◌<◌}
use native.Mathlib.Decide.{ℕ_discrete}
use native.Mathlib.Omega.{arith}
use borrow.Author.Tests.{lt-ltb}
use lib.Dec.{ltb}
use lib.ListN.{length, get_or, set, replicate, length-set, length-replicate}
use lib.Seq.{get_or-set_same, get_or-set_other}
use Rattle.policy.specs.Policy.{Policy}
use Rattle.policy.specs.Rules.{policy_of}
use Rattle.policy.specs.declared.Rules.{Rules}
use Rattle.runs.specs.Edge.{opens_with, changes_to}
use Rattle.allowed.specs.Allowed.{says, opening, changing, user_value, model_of}
use Rattle.allowed.proofs.ModelLaws.{model-users, model-user-value, model-may-open, model-may-change}
use Rattle.allowed.proofs.Laws.{value-at}
use Rattle.search.specs.Queue.{nothing, spread}
use Rattle.search.specs.Sessions.{grow_to, sessions_found}
use Rattle.search.specs.declared.queue.Found.{Found}

-- of 16 places, those below u have what P says
pub record Filled {A : Type 0} (d : A) (P : ℕ → A → Type 0) (xs : List A) (u : ℕ) : Type 0 where
  pub long : length xs ≡ 16
  pub each : (k : ℕ) → k < u → P k (get_or xs k d)

module _ {A : Type 0} {d : A} {P : ℕ → A → Type 0} where
  pub filled_none : (x : A) → Filled d P (replicate 16 x) 0
  filled_none x = record { long = length-replicate 16 x; each = λ k h. absurd (omega arith) }

  pub filled_more : (xs : List A) (u : ℕ) (x : A) → u < 16 → Filled d P xs u → P u x → Filled d P (set xs u x) (u + 1)
  filled_more xs u x h s is =
      record {
        long = length-set xs u x ∙ s.long;
        each = λ k l. go k l (ℕ_discrete k u);
      }
    where
      go : (k : ℕ) → k < u + 1 → Dec (k ≡ u) → P k (get_or (set xs u x) k d)
      go k l (yes i) = subst (λ (j : ℕ). P j (get_or (set xs u x) j d)) (sym i) (subst (P u) (sym (get_or-set_same xs u x d (omega (arith, s.long)))) is)
      go k l (no n) = subst (P k) (sym (get_or-set_other xs u k x d n)) (s.each k (omega arith))

-- users with the same value
module _ (p : Policy) (u w : ℕ) (there : u < (model_of p).users) (first : w < (model_of p).users) (e : user_value p u ≡ user_value p w) where
  opens-alike : (v : ℕ) → opens_with (model_of p) u v ≡ opens_with (model_of p) w v
  unfolding opens_with
  opens-alike v =
      rw (lt-ltb u (model_of p).users there, lt-ltb w (model_of p).users first)
      (ap (λ (b : Bool). true && (model_of p).session_value v && b) (model-may-open p u v ∙ ap (λ (x : ℕ). says p 0 (opening x v)) e ∙ sym (model-may-open p w v)))

  changes-alike : (v x : ℕ) → changes_to (model_of p) u v x ≡ changes_to (model_of p) w v x
  unfolding changes_to
  changes-alike v x =
      ap (λ (b : Bool). (model_of p).session_value x && b) (model-may-change p u v x ∙ ap (λ (z : ℕ). says p 1 (changing z v x)) e ∙ sym (model-may-change p w v x))

  pub sessions-alike : sessions_found (model_of p) u ≡ sessions_found (model_of p) w
  unfolding sessions_found
  sessions-alike =
      ap₂ (λ (o : ℕ → Bool) (c : ℕ → ℕ → Bool). grow_to (model_of p).session_value c (spread o nothing 0 0) 256)
      (λ i v. opens-alike v i) (λ i v x. changes-alike v x i)

-- the search of a user is that of one before it with the same value
pub found_alike : (r : Rules) (u w : ℕ) → w < u → u < r.users.count → get_or r.users.values w 0 ≡ get_or r.users.values u 0 → (x : Found)
    → x ≡ cond (ltb w (model_of (policy_of r)).users) (sessions_found (model_of (policy_of r)) w) nothing
    → x ≡ cond (ltb u (model_of (policy_of r)).users) (sessions_found (model_of (policy_of r)) u) nothing
found_alike r u w before there e x X =
    let m = model_of (policy_of r) in
    let n : m.users ≡ r.users.count = model-users r in
    let hu : u < m.users = omega arith in
    let hw : w < m.users = omega arith in
    let v : user_value (policy_of r) u ≡ user_value (policy_of r) w =
    model-user-value r u ∙ value-at r.users u there ∙ sym e ∙ sym (value-at r.users w (omega arith)) ∙ sym (model-user-value r w) in
    X ∙ ap (λ (b : Bool). cond b (sessions_found m w) nothing) (lt-ltb w m.users hw) ∙ sym (sessions-alike (policy_of r) u w hu hw v)
    ∙ sym (ap (λ (b : Bool). cond b (sessions_found m u) nothing) (lt-ltb u m.users hu))
