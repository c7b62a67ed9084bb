-- Laws of what the users' searches find together. In order: the searches of all users; what some user can have; who is
-- named for a session value; pairs. Not here: starting sessions (Starts), what sessions can have (UsersReach).
use mathlib.Core.Path.{◌≡◌, refl, sym, ap, ◌∙◌, subst}
use mathlib.Core.Bool.{Bool, true, false, not, ◌&&◌, ◌||◌, cond}
use mathlib.Core.List.{List}
use Prim.Native.Nat.{ℕ, ◌+◌, ◌-◌, ◌≤◌, ◌<◌}
use native.Mathlib.Decide.{ℕ_discrete}
use native.Mathlib.Numerals.{add-one}
use native.Mathlib.Omega.{arith}
use borrow.Author.Tests.{ne_eqb}
use lib.Dec.{ltb, eqb}
use lib.ListN.{length, get_or, set, replicate, length-set, length-replicate, get_or-replicate}
use lib.Seq.{ext_get_or, get_or-set_same, get_or-set_other}
use Rattle.bits.specs.Packed.{tab}
use Rattle.bits.proofs.Packed.{length-tab, get_or-tab}
use Rattle.lanes.specs.Lanes.{lane_of, some_below}
use Rattle.runs.specs.Model.{Model}
use Rattle.search.specs.Queue.{nothing}
use Rattle.search.specs.Sessions.{sessions_found}
use Rattle.search.specs.declared.queue.Found.{Found}
use Rattle.search.proofs.Turns.{chosen, nothing-len}
use Rattle.search.proofs.Theorems.{sessions-are-searched}
use Rattle.user_results.specs.Found.{user_found, UsersFound, any_has, named, Names, name_after, found_pairs}

-- a search of a user has found at most 256 values
pub users-few : (m : Model) (users : List Found) → UsersFound m users → (u : ℕ) → u < 16 → (user_found users u).len ≤ 256
users-few m users s u h =
    subst (λ (q : Found). q.len ≤ 256) (sym (s.each u h))
    (chosen (λ (q : Found). q.len ≤ 256) (ltb u m.users) (sessions_found m u) nothing (λ e. (sessions-are-searched m u).good.placed.few) (λ e. omega (arith, nothing-len)))

-- whether f holds of some number

module _ (f : ℕ → Bool) where
  pub some-zero : some_below f 0 ≡ false
  unfolding some_below
  some-zero = refl

  pub some_more : (n : ℕ) → some_below f (n + 1) ≡ some_below f n || f n
  unfolding some_below
  some_more n = rw add-one

-- some of the users below u can have value v
abbrev pub some_has : List Found → ℕ → ℕ → Bool
some_has users u v = some_below (λ k. lane_of (user_found users k).seen v) u

pub any-has : (users : List Found) (v : ℕ) → some_has users 16 v ≡ any_has users v
unfolding any_has
any-has users v = refl

-- who is named for a session value

pub name-is : (by seen : List ℕ) (u : ℕ) (asked : Bool) (v : ℕ) → name_after by seen u asked v ≡ cond (lane_of seen v && (eqb (get_or by v 0) 0 || asked)) (u + 1) (get_or by v 0)
unfolding name_after
name-is by seen u asked v = refl

-- the values below n are named anew, and the others are as they were
pub record Renamed (by seen : List ℕ) (u : ℕ) (asked : Bool) (r : List ℕ) (n : ℕ) : Type 0 where
  pub long : length r ≡ 256
  pub done : (v : ℕ) → v < n → get_or r v 0 ≡ name_after by seen u asked v
  pub rest : (v : ℕ) → n ≤ v → get_or r v 0 ≡ get_or by v 0

module _ (by seen : List ℕ) (u : ℕ) (asked : Bool) where
  pub renamed-more : (r : List ℕ) (n : ℕ) → n < 256 → Renamed by seen u asked r n → (x : ℕ)
      → x ≡ cond (lane_of seen n && (eqb (get_or r n 0) 0 || asked)) (u + 1) (get_or r n 0) → Renamed by seen u asked (set r n x) (n + 1)
  renamed-more r n h s x e =
      record {
        long = length-set r n x ∙ s.long;
        done = λ v b. go v b (ℕ_discrete v n);
        rest = λ v b. get_or-set_other r n v x 0 (λ z. omega arith) ∙ s.rest v (omega arith);
      }
    where
      go : (v : ℕ) → v < n + 1 → Dec (v ≡ n) → get_or (set r n x) v 0 ≡ name_after by seen u asked v
      go v b (yes i) =
          ap (λ (k : ℕ). get_or (set r n x) k 0) i ∙ get_or-set_same r n x 0 (omega (arith, s.long)) ∙ e
          ∙ ap (λ (k : ℕ). cond (lane_of seen n && (eqb k 0 || asked)) (u + 1) k) (s.rest n (omega arith))
          ∙ sym (name-is by seen u asked n) ∙ ap (name_after by seen u asked) (sym i)
      go v b (no d) = get_or-set_other r n v x 0 d ∙ s.done v (omega arith)

  pub renamed-all : (r : List ℕ) (n : ℕ) → 256 ≤ n → Renamed by seen u asked r n → r ≡ tab (name_after by seen u asked) 0 256
  renamed-all r n h s =
      ext_get_or 0 r _ (s.long ∙ sym (length-tab _ 0 256))
      (λ v b. s.done v (omega (arith, s.long)) ∙ sym (get_or-tab _ 0 256 v 0 (omega (arith, s.long)) ∙ ap (name_after by seen u asked) (omega arith)))

-- of the users below u one is named for each value that some of them can have
pub record Naming (users : List Found) (by : List ℕ) (u : ℕ) : Type 0 where
  pub long : length by ≡ 256
  pub named-is : (v : ℕ) → v < 256 → named by v ≡ some_has users u v
  pub few : (v : ℕ) → v < 256 → get_or by v 0 ≤ u
  pub has : (v : ℕ) → v < 256 → named by v ≡ true → lane_of (user_found users (get_or by v 0 - 1)).seen v ≡ true

false-true : {A : Type 0} → false ≡ true → A
false-true e = absurd (let z : ◌≡◌ {A = ℕ} 0 1 = cc in omega arith)

name-as : (by : List ℕ) (v n : ℕ) → get_or by v 0 ≡ n → named by v ≡ not (eqb n 0)
unfolding named
name-as by v n e = ap (λ (k : ℕ). not (eqb k 0)) e

pub naming-none : (users : List Found) → Naming users (replicate 256 0) 0
naming-none users =
    record {
      long = length-replicate {A = ℕ} 256 0;
      named-is = λ v h. name-as _ v 0 (zeros v h) ∙ sym (some-zero _);
      few = λ v h. omega (arith, zeros v h);
      has = λ v h e. false-true (sym (name-as _ v 0 (zeros v h)) ∙ e);
    }
  where
    zeros : (v : ℕ) → v < 256 → get_or {A = ℕ} (replicate 256 0) v 0 ≡ 0
    zeros v h = get_or-replicate {A = ℕ} 256 v 0 0 h

-- one value, when user u is named
module _ (users : List Found) (by seen : List ℕ) (u : ℕ) (asked : Bool) (s : Naming users by u) (e : (user_found users u).seen ≡ seen) where
  abbrev Named : ℕ → ℕ → Type 0
  Named v n = (not (eqb n 0) ≡ some_has users (u + 1) v) × (n ≤ u + 1) × (not (eqb n 0) ≡ true → lane_of (user_found users (n - 1)).seen v ≡ true)

  name-value : (v : ℕ) → v < 256 → (l z : Bool) → lane_of seen v ≡ l → eqb (get_or by v 0) 0 ≡ z → Named v (cond (l && (z || asked)) (u + 1) (get_or by v 0))
  name-value v h false z el ez = (
    sym (name-as by v _ refl) ∙ s.named-is v h ∙ keep (some_has users u v) ∙ sym (some_more _ u ∙ ap (λ (b : Bool). some_has users u v || b) (lane ∙ el)),
    omega (arith, s.few v h),
    λ t. s.has v h (name-as by v _ refl ∙ t),
  )
    where
      lane : lane_of (user_found users u).seen v ≡ lane_of seen v
      lane = ap (λ (x : List ℕ). lane_of x v) e

      keep : (b : Bool) → b ≡ b || false
      keep true = refl
      keep false = refl
  name-value v h true z el ez = go z ez asked
    where
      either : (b : Bool) → true ≡ b || true
      either true = refl
      either false = refl

      lane : lane_of (user_found users u).seen v ≡ true
      lane = ap (λ (x : List ℕ). lane_of x v) e ∙ el

      some : true ≡ some_has users (u + 1) v
      some = either (some_has users u v) ∙ sym (some_more _ u ∙ ap (λ (b : Bool). some_has users u v || b) lane)

      mine : Named v (u + 1)
      mine = (
        ap not (ne_eqb (u + 1) 0 (λ x. omega arith)) ∙ some,
        omega arith,
        λ t. let k : u + 1 - 1 ≡ u = omega arith in ap (λ (j : ℕ). lane_of (user_found users j).seen v) k ∙ lane,
      )

      go : (z : Bool) → eqb (get_or by v 0) 0 ≡ z → (w : Bool) → Named v (cond (true && (z || w)) (u + 1) (get_or by v 0))
      go true ez w = mine
      go false ez true = mine
      go false ez false = (ap not ez ∙ some, omega (arith, s.few v h), λ t. s.has v h (name-as by v _ refl ∙ t))

  pub naming-more : (r : List ℕ) → r ≡ tab (name_after by seen u asked) 0 256 → Naming users r (u + 1)
  naming-more r is =
      record {
        long = ap length is ∙ length-tab _ 0 256;
        named-is = λ v h. name-as r v _ (at v h) ∙ (each v h).0;
        few = λ v h. let x = (each v h).1 in omega (arith, at v h);
        has = λ v h t. ap (λ (n : ℕ). lane_of (user_found users (n - 1)).seen v) (at v h) ∙ (each v h).2 (sym (name-as r v _ (at v h)) ∙ t);
      }
    where
      value : ℕ → ℕ
      value v = cond (lane_of seen v && (eqb (get_or by v 0) 0 || asked)) (u + 1) (get_or by v 0)

      at : (v : ℕ) → v < 256 → get_or r v 0 ≡ value v
      at v h = ap (λ (l : List ℕ). get_or l v 0) is ∙ get_or-tab _ 0 256 v 0 h ∙ ap (name_after by seen u asked) (omega arith) ∙ name-is by seen u asked v

      each : (v : ℕ) → (h : v < 256) → Named v (value v)
      each v h = name-value v h (lane_of seen v) (eqb (get_or by v 0) 0) refl refl

pub naming-all : (users : List Found) (by : List ℕ) (u : ℕ) → u ≡ 16 → Naming users by u → Names users by
naming-all users by u e s =
    record {
      long = s.long;
      named-is = λ v h. s.named-is v h ∙ ap (λ (n : ℕ). some_has users n v) e ∙ any-has users v;
      few = λ v h. omega (arith, s.few v h);
      has = s.has;
    }

-- pairs

module _ (users : List Found) where
  pub pairs-none : found_pairs users 0 ≡ 0
  unfolding found_pairs
  pairs-none = refl

  pub pairs-more : (u : ℕ) → found_pairs users (u + 1) ≡ found_pairs users u + (user_found users u).len
  unfolding found_pairs
  pairs-more u = rw add-one
