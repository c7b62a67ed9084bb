-- Laws of the definitions in specs/; no other file here unfolds those. In order: places of sessions and items; tests in a row;
-- an open session; each kind of step; all kinds; runs.
use mathlib.Core.Path.{◌≡◌, refl, sym, ap, ◌∙◌, subst}
use mathlib.Core.Bool.{Bool, true, false}
use mathlib.Core.List.{List, [], ◌∷◌, ◌++◌}
use mathlib.Core.Option.{Option, none, some}
use Prim.Native.Nat.{ℕ, zero, suc, ◌<◌}
use native.Mathlib.Omega.{arith}
use borrow.Author.Tests.{eqb-true, ltb-true, eq-eqb, lt-ltb}
use lib.ListN.{length, get_or, set, get_or-append}
use lib.Seq.{get_or-set_same, get_or-append_seam, set-get_or}
use Rattle.runs.specs.Model.{Model}
use Rattle.runs.specs.State.{Session, closed, opened, Item, State, session_at, item_at, begin}
use Rattle.runs.specs.Step.{Step, Carried, opens, closes, changes, makes, modifies, grants}
use Rattle.runs.specs.Stepped.{when, when_open, to_open, to_close, to_change, to_make, to_modify, to_access, by_kind, stepped}
use Rattle.runs.specs.Run.{or_same, run}

abbrev pub state : List Session → List Item → State
state ss is = record { sessions = ss; items = is }

pub session_at-is : (s : State) (k : ℕ) → session_at s k ≡ get_or s.sessions k closed
unfolding session_at
session_at-is s k = refl

pub item_at-is : (s : State) (k : ℕ) → item_at s k ≡ get_or s.items k 0
unfolding item_at
item_at-is s k = refl

pub not-closed : {u v : ℕ} → Path Session closed (opened u v) → ⊥
not-closed e = let z : ◌≡◌ {A = ℕ} 0 1 = cc in omega arith

open-below : (l : List Session) (k u v : ℕ) → get_or l k closed ≡ opened u v → k < length l
open-below [] k u v e = absurd (not-closed e)
open-below (x ∷ l) zero u v e = omega arith
open-below (x ∷ l) (suc k) u v e = let h = open-below l k u v e in omega arith

-- an open session stands inside its list
pub open-inside : (s : State) (k u v : ℕ) → session_at s k ≡ opened u v → k < length s.sessions
unfolding session_at
open-inside s k u v e = open-below s.sessions k u v e

-- no session is open at a start without sessions
pub begin-none : (items : List Item) (k u v : ℕ) → session_at (begin [] items) k ≡ opened u v → ⊥
unfolding begin session_at
begin-none items k u v e = not-closed e

module _ (s : State) where
  pub session_at-added : (u v : ℕ) → session_at (state (s.sessions ++ opened u v ∷ []) s.items) (length s.sessions) ≡ opened u v
  unfolding session_at
  session_at-added u v = get_or-append_seam s.sessions (opened u v) [] closed

  pub session_at-kept : (added : List Session) (is : List Item) (k u v : ℕ) → session_at s k ≡ opened u v → session_at (state (s.sessions ++ added) is) k ≡ opened u v
  unfolding session_at
  session_at-kept added is k u v e = let h = open-inside s k u v e in rw get_or-append e

  pub session_at-set : (k u held v : ℕ) → session_at s k ≡ opened u held → session_at (state (set s.sessions k (opened u v)) s.items) k ≡ opened u v
  unfolding session_at
  session_at-set k u held v e = get_or-set_same s.sessions k (opened u v) closed (open-inside s k u held e)

  -- a session set to what it is
  pub set-session_at : (k : ℕ) (x : Session) → session_at s k ≡ x → set s.sessions k x ≡ s.sessions
  unfolding session_at
  set-session_at k x e = rw (← e) (set-get_or s.sessions k closed)

  pub item_at-same : (ss : List Session) (k : ℕ) → item_at (state ss s.items) k ≡ item_at s k
  unfolding item_at
  item_at-same ss k = refl

  pub item_at-added : (ss : List Session) (o : ℕ) → item_at (state ss (s.items ++ o ∷ [])) (length s.items) ≡ o
  unfolding item_at
  item_at-added ss o = get_or-append_seam s.items o [] 0

  pub item_at-set : (ss : List Session) (k o : ℕ) → k < length s.items → item_at (state ss (set s.items k o)) k ≡ o
  unfolding item_at
  item_at-set ss k o h = get_or-set_same s.items k o 0 h

  -- an item set to what it is
  pub set-item_at : (k o : ℕ) → item_at s k ≡ o → set s.items k o ≡ s.items
  unfolding item_at
  set-item_at k o e = rw (← e) (set-get_or s.items k 0)

-- every test of a row holds
abbrev pub AllTrue : List Bool → Type 0
AllTrue [] = Unit {0}
AllTrue (b ∷ bs) = (b ≡ true) × AllTrue bs

no-state : {C : Type 0} {t : State} → Path (Option State) none (some t) → C
no-state e = absurd (let z : ◌≡◌ {A = ℕ} 0 1 = cc in omega arith)

pub when-some : {C : Type 0} (bs : List Bool) (x t : State) → when bs x ≡ some t → (AllTrue bs → t ≡ x → C) → C
unfolding when
when-some [] x t e k = k tt (cc)
when-some (true ∷ bs) x t e k = when-some bs x t e (λ h q. k (refl, h) q)
when-some (false ∷ bs) x t e k = no-state e

pub when-all : (bs : List Bool) (x : State) → AllTrue bs → when bs x ≡ some x
unfolding when
when-all [] x h = refl
when-all (true ∷ bs) x h = when-all bs x h.1
when-all (false ∷ bs) x h = absurd (let z : ◌≡◌ {A = ℕ} 0 1 = let e = h.0 in cc in omega arith)

pub open-some : {C : Type 0} (x : Session) (f : ℕ → ℕ → Option State) (t : State) → when_open x f ≡ some t → ((u v : ℕ) → x ≡ opened u v → f u v ≡ some t → C) → C
unfolding when_open
open-some closed f t e k = no-state e
open-some (opened u v) f t e k = k u v refl e

pub open_is : (x : Session) (f : ℕ → ℕ → Option State) (u v : ℕ) → x ≡ opened u v → when_open x f ≡ f u v
unfolding when_open
open_is x f u v e = rw e refl

module _ (m : Model) (s : State) (p : Step) (after : State) where
  opens_by : p.kind ≡ 1 → to_open m s p ≡ some after → Carried m s p after
  opens_by k e =
      when-some _ _ after e λ h q.
      opens record { kind = k; user = ltb-true _ _ h.0; next = eqb-true _ _ h.1.0; listed = h.1.1.0; allowed = h.1.1.1.0; state = q }

  closes_by : p.kind ≡ 2 → to_close m s p ≡ some after → Carried m s p after
  closes_by k e =
      open-some _ _ after e λ u v o d.
      when-some _ _ after d λ h q.
      closes
      record {
        kind = k;
        held = v;
        owner = o ∙ ap (λ (x : ℕ). opened x v) (sym (eqb-true _ _ h.0));
        nothing = eqb-true _ _ h.1.0;
        state = q;
      }

  changes-by : p.kind ≡ 3 → to_change m s p ≡ some after → Carried m s p after
  changes-by k e =
      open-some _ _ after e λ u v o d.
      when-some _ _ after d λ h q.
      let a : u ≡ p.actor = sym (eqb-true _ _ h.0) in
      changes
      record {
        kind = k;
        held = v;
        owner = o ∙ ap (λ (x : ℕ). opened x v) a;
        listed = h.1.0;
        allowed = subst (λ (x : ℕ). m.may_change x v p.value ≡ true) a h.1.1.0;
        state = q ∙ ap (λ (x : ℕ). record { sessions = set s.sessions p.target (opened x p.value); items = s.items }) a;
      }

  makes-by : p.kind ≡ 4 → to_make m s p ≡ some after → Carried m s p after
  makes-by k e =
      open-some _ _ after e λ u v o d.
      when-some _ _ after d λ h q.
      makes record { kind = k; user = u; held = v; actor = o; next = eqb-true _ _ h.0; listed = h.1.0; allowed = h.1.1.0; state = q }

  modifies-by : p.kind ≡ 5 → to_modify m s p ≡ some after → Carried m s p after
  modifies-by k e =
      open-some _ _ after e λ u v o d.
      when-some _ _ after d λ h q.
      modifies record { kind = k; user = u; held = v; actor = o; there = ltb-true _ _ h.0; listed = h.1.0; allowed = h.1.1.0; state = q }

  grants-by : p.kind ≡ 6 → to_access m s p ≡ some after → Carried m s p after
  grants-by k e =
      open-some _ _ after e λ u v o d.
      when-some _ _ after d λ h q.
      grants
      record { kind = k; user = u; held = v; actor = o; there = ltb-true _ _ h.0; permission = ltb-true _ _ h.1.0; allowed = h.1.1.0; state = q }

  carried-by : (k : ℕ) → p.kind ≡ k → by_kind m s p k ≡ some after → Carried m s p after
  unfolding by_kind
  carried-by zero k e = no-state e
  carried-by (suc zero) k e = opens_by k e
  carried-by (suc (suc zero)) k e = closes_by k e
  carried-by (suc (suc (suc zero))) k e = changes-by k e
  carried-by (suc (suc (suc (suc zero)))) k e = makes-by k e
  carried-by (suc (suc (suc (suc (suc zero))))) k e = modifies-by k e
  carried-by (suc (suc (suc (suc (suc (suc zero)))))) k e = grants-by k e
  carried-by (suc (suc (suc (suc (suc (suc (suc n))))))) k e = no-state e

  pub stepped-carried : stepped m s p ≡ some after → Carried m s p after
  unfolding stepped
  stepped-carried e = carried-by p.kind refl e

  kind-is : (k : ℕ) (r : Option State) → p.kind ≡ k → by_kind m s p k ≡ r → stepped m s p ≡ r
  unfolding stepped
  kind-is k r e d = ap (by_kind m s p) e ∙ d

  pub carried-stepped : Carried m s p after → stepped m s p ≡ some after
  unfolding by_kind
  carried-stepped (opens h) =
      kind-is 1 _ h.kind (when-all _ _ (lt-ltb _ _ h.user, (eq-eqb _ _ h.next, (h.listed, (h.allowed, tt)))) ∙ ap some (sym h.state))
  carried-stepped (closes h) =
      kind-is 2 _ h.kind
      (open_is _ _ _ _ h.owner ∙ when-all _ _ (eq-eqb p.actor _ refl, (eq-eqb _ _ h.nothing, tt)) ∙ ap some (sym h.state))
  carried-stepped (changes h) =
      kind-is 3 _ h.kind
      (open_is _ _ _ _ h.owner ∙ when-all _ _ (eq-eqb p.actor _ refl, (h.listed, (h.allowed, tt))) ∙ ap some (sym h.state))
  carried-stepped (makes h) =
      kind-is 4 _ h.kind (open_is _ _ _ _ h.actor ∙ when-all _ _ (eq-eqb _ _ h.next, (h.listed, (h.allowed, tt))) ∙ ap some (sym h.state))
  carried-stepped (modifies h) =
      kind-is 5 _ h.kind (open_is _ _ _ _ h.actor ∙ when-all _ _ (lt-ltb _ _ h.there, (h.listed, (h.allowed, tt))) ∙ ap some (sym h.state))
  carried-stepped (grants h) =
      kind-is 6 _ h.kind
      (open_is _ _ _ _ h.actor ∙ when-all _ _ (lt-ltb _ _ h.there, (lt-ltb _ _ h.permission, (h.allowed, tt))) ∙ ap some (sym h.state))

module _ (m : Model) (s : State) where
  pub or_same-none : or_same s none ≡ s
  unfolding or_same
  or_same-none = refl

  pub or_same-some : (after : State) → or_same s (some after) ≡ after
  unfolding or_same
  or_same-some after = refl

  pub run_end : run m s [] ≡ s
  unfolding run
  run_end = refl

  pub run-next : (p : Step) (ps : List Step) → run m s (p ∷ ps) ≡ run m (or_same s (stepped m s p)) ps
  unfolding run
  run-next p ps = refl
