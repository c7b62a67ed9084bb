-- The computed sets are the closures of runs, and the verdict is whether they hold a granted pair.
-- In order: the rules' tests; values of sessions; starting sessions; some session; values of items; one that is asked about; the pair.
use mathlib.Core.Path.{◌≡◌, refl, sym, ◌∙◌, subst}
use mathlib.Core.Bool.{Bool, true, false, ◌&&◌}
use mathlib.Core.Logic.{◌⊎◌, inl, inr, ◌↔◌}
use mathlib.Core.List.{List, [], ◌∷◌}
use Prim.Native.Nat.{ℕ, zero, suc, ◌<◌}
use borrow.Author.Tests.{eqb-true, ltb-true, eq-eqb, lt-ltb}
use lib.Dec.{eqb, ltb}
use lib.ListN.{length, get_or}
use Rattle.lanes.specs.Lanes.{some_below}
use Rattle.runs.specs.Model.{Model}
use Rattle.runs.specs.Edge.{opens_with, changes_to, makes_with, modifies_to, accesses}
use Rattle.runs.specs.State.{Session, closed, opened, State, session_at, item_at}
use Rattle.runs.specs.Grant.{Who, session, user, anyone, Which, item, anything}
use Rattle.runs.specs.Reach.{Star, base, more, OpenedWith, ChangedTo, Reach, ReachFrom, MadeWith, ModifiedTo, ItemFrom, ItemMade, Brought, WhoReach, WhichReach, AskedWhich, Risk}
use Rattle.runs.specs.Outcome.{Below}
use Rattle.runs.proofs.Laws.{not-closed}
use Rattle.verdict.specs.Closure.{in_table, closure}
use Rattle.verdict.specs.Verdict.{reached, reached_from, helpers, all_brought, can_make, can_modify, made, item_from, of_one, who_can, which_can, leaks}
use Rattle.verdict.proofs.Below.{not-both, both, both_of, either, either-of, some_below_lem, in-table}
use Rattle.verdict.proofs.Closed.{closure-at}

pub star-map : {S S' : ℕ → Type 0} {E E' : ℕ → ℕ → Type 0} → ((x : ℕ) → S x → S' x) → ((x y : ℕ) → E x y → E' x y) → {v : ℕ} → Star S E v → Star S' E' v
star-map f g {v} (base h) = base (f v h)
star-map f g {v} (more {x} r h) = more (star-map f g r) (g x v h)

-- a closure is computed where its start and its edges are
closure-as : (n : ℕ) (start : ℕ → Bool) (edge : ℕ → ℕ → Bool) (S : ℕ → Type 0) (E : ℕ → ℕ → Type 0) → ((x : ℕ) → ((x < n) × (start x ≡ true)) ↔ S x)
    → ((x y : ℕ) → ((y < n) × (edge x y ≡ true)) ↔ E x y) → (v : ℕ) → (in_table (closure n start edge) v ≡ true) ↔ Star S E v
closure-as n start edge S E s e v = (
  λ t. star-map (λ x. (s x).0) (λ x y. (e x y).0) ((closure-at n start edge v).0 t),
  λ r. (closure-at n start edge v).1 (star-map (λ x. (s x).1) (λ x y. (e x y).1) r),
)

module _ (m : Model) where
  pub opens-with : (u v : ℕ) → (opens_with m u v ≡ true) ↔ OpenedWith m u v
  unfolding opens_with
  opens-with u v = (
    λ t.
        let (a, c) = both_of (ltb u m.users && m.session_value v) (m.may_open u v) t in
        let (d, b) = both_of (ltb u m.users) (m.session_value v) a in
        (ltb-true u m.users d, b, c),
    λ h. both (ltb u m.users && m.session_value v) (m.may_open u v) (both (ltb u m.users) (m.session_value v) (lt-ltb u m.users h.0) h.1) h.2,
  )

  pub changes-to : (u v w : ℕ) → (changes_to m u v w ≡ true) ↔ ChangedTo m u v w
  unfolding changes_to
  changes-to u v w = (both_of (m.session_value w) (m.may_change u v w), λ h. both (m.session_value w) (m.may_change u v w) h.0 h.1)

  pub makes-with : (v o : ℕ) → (makes_with m v o ≡ true) ↔ ((m.item_value o ≡ true) × (m.may_make v o ≡ true))
  unfolding makes_with
  makes-with v o = (both_of (m.item_value o) (m.may_make v o), λ h. both (m.item_value o) (m.may_make v o) h.0 h.1)

  pub modifies-to : (v o p : ℕ) → (modifies_to m v o p ≡ true) ↔ ((m.item_value p ≡ true) × (m.may_modify v o p ≡ true))
  unfolding modifies_to
  modifies-to v o p = (both_of (m.item_value p) (m.may_modify v o p), λ h. both (m.item_value p) (m.may_modify v o p) h.0 h.1)

  pub accesses-is : (p v o : ℕ) → (accesses m p v o ≡ true) ↔ ((p < m.permissions) × (m.may_access p v o ≡ true))
  unfolding accesses
  accesses-is p v o = (
    λ t. let (a, b) = both_of (ltb p m.permissions) (m.may_access p v o) t in (ltb-true p m.permissions a, b),
    λ h. both (ltb p m.permissions) (m.may_access p v o) (lt-ltb p m.permissions h.0) h.1,
  )

module _ (m : Model) (start : State) (n k : ℕ) (w : Below m start n k) where
  pub reach-below : {u v : ℕ} → Reach m u v → (u < m.users) × (v < n)
  reach-below {u} {v} (base h) = (h.0, w.sessions v h.1)
  reach-below {u} {v} (more r e) = ((reach-below r).0, w.sessions v e.0)

  change-below : (u x y : ℕ) → ((y < n) × (changes_to m u x y ≡ true)) ↔ ChangedTo m u x y
  change-below u x y = (λ p. (changes-to m u x y).0 p.1, λ e. (w.sessions y e.0, (changes-to m u x y).1 e))

  -- a number that passes a test of being held
  held_below : (held b : ℕ) → held < b → (x : ℕ) → ((x < b) × (eqb held x ≡ true)) ↔ (held ≡ x)
  held_below held b h x = (λ p. eqb-true held x p.1, λ e. (rw e at h, eq-eqb held x e))

  pub reached-is : (u v : ℕ) → (in_table (reached m n u) v ≡ true) ↔ Reach m u v
  unfolding reached
  reached-is u v =
      closure-as n (opens_with m u) (changes_to m u) (OpenedWith m u) (ChangedTo m u) (λ x. (λ p. (opens-with m u x).0 p.1, λ h. (w.sessions x h.1, (opens-with m u x).1 h))) (change-below u) v

  pub reached_from-is : (u held v : ℕ) → held < n → (in_table (reached_from m n u held) v ≡ true) ↔ ReachFrom m u held v
  unfolding reached_from
  reached_from-is u held v h = closure-as n (eqb held) (changes_to m u) (λ x. held ≡ x) (ChangedTo m u) (held_below held n h) (change-below u) v

  brought-list : (l : List Session) → (all_brought m n l ≡ true) ↔ ((j u v : ℕ) → get_or l j closed ≡ opened u v → Reach m u v)
  unfolding all_brought
  brought-list [] = (λ t j u v e. absurd (not-closed e), λ b. refl)
  brought-list (closed ∷ l) = (λ t. rest ((brought-list l).0 t), λ b. (brought-list l).1 (λ j. b (suc j)))
    where
      rest : ((j u v : ℕ) → get_or l j closed ≡ opened u v → Reach m u v) → (j u v : ℕ) → get_or (closed ∷ l) j closed ≡ opened u v → Reach m u v
      rest r zero u v e = absurd (not-closed e)
      rest r (suc j) u v e = r j u v e
  brought-list (opened a h ∷ l) = (
    λ t. let (x, y) = both_of (in_table (reached m n a) h) (all_brought m n l) t in rest x ((brought-list l).0 y),
    λ b. both (in_table (reached m n a) h) (all_brought m n l) ((reached-is a h).1 (b 0 a h refl)) ((brought-list l).1 (λ j. b (suc j))),
  )
    where
      rest : in_table (reached m n a) h ≡ true → ((j u v : ℕ) → get_or l j closed ≡ opened u v → Reach m u v) → (j u v : ℕ) → get_or (opened a h ∷ l) j closed ≡ opened u v → Reach m u v
      rest t r zero u v e =
          let p : a ≡ u = cc in
          let q : h ≡ v = cc in
          subst (λ (y : ℕ). Reach m u y) q (subst (λ (y : ℕ). Reach m y h) p ((reached-is a h).0 t))
      rest t r (suc j) u v e = r j u v e

  unbrought-list : (l : List Session) → all_brought m n l ≡ false → (j : ℕ) × (u : ℕ) × (v : ℕ) × (get_or l j closed ≡ opened u v) × (Reach m u v → ⊥)
  unfolding all_brought
  unbrought-list [] t = not-both t refl
  unbrought-list (closed ∷ l) t = let (j, u, v, e, r) = unbrought-list l t in (suc j, u, v, e, r)
  unbrought-list (opened a h ∷ l) t = go (in_table (reached m n a) h) refl t (unbrought-list l)
    where
      go : (b : Bool) → in_table (reached m n a) h ≡ b → b && all_brought m n l ≡ false
          → (all_brought m n l ≡ false → (j : ℕ) × (u : ℕ) × (v : ℕ) × (get_or l j closed ≡ opened u v) × (Reach m u v → ⊥))
          → (j : ℕ) × (u : ℕ) × (v : ℕ) × (get_or (opened a h ∷ l) j closed ≡ opened u v) × (Reach m u v → ⊥)
      go false e t k = (0, a, h, refl, λ r. not-both e ((reached-is a h).1 r))
      go true e t k = let (j, u, v, x, r) = k t in (suc j, u, v, x, r)

  -- where not every starting session could have been brought about, one could not
  pub unbrought-is : all_brought m n start.sessions ≡ false → (j : ℕ) × (u : ℕ) × (v : ℕ) × (session_at start j ≡ opened u v) × (Reach m u v → ⊥)
  unfolding session_at
  unbrought-is = unbrought-list start.sessions

  pub brought-is : (all_brought m n start.sessions ≡ true) ↔ Brought m start
  unfolding session_at
  brought-is = brought-list start.sessions

  pub helpers-is : (v : ℕ) → (in_table (helpers m n) v ≡ true) ↔ ((u : ℕ) × Reach m u v)
  unfolding helpers
  helpers-is v = (
    λ t.
        let (l, s) = (in-table (λ y. some_below (λ u. in_table (reached m n u) y) m.users) n v).0 t in
        let (u, i, r) = (some_below_lem (λ u. in_table (reached m n u) v) m.users).0 s in
        (u, (reached-is u v).0 r),
    λ p.
        let (i, l) = reach-below p.1 in
        (in-table (λ y. some_below (λ u. in_table (reached m n u) y) m.users) n v).1
        (l, (some_below_lem (λ u. in_table (reached m n u) v) m.users).1 (p.0, i, (reached-is p.0 v).1 p.1)),
  )

  -- a test of some session's value
  some-helper : (f : ℕ → Bool) → (some_below (λ v. in_table (helpers m n) v && f v) n ≡ true) ↔ ((u : ℕ) × (v : ℕ) × Reach m u v × (f v ≡ true))
  some-helper f = (
    λ t.
        let (v, l, s) = (some_below_lem (λ v. in_table (helpers m n) v && f v) n).0 t in
        let (a, c) = both_of (in_table (helpers m n) v) (f v) s in
        let (u, r) = (helpers-is v).0 a in
        (u, v, r, c),
    λ p.
        (some_below_lem (λ v. in_table (helpers m n) v && f v) n).1
        (p.1, (reach-below p.2).1, both (in_table (helpers m n) p.1) (f p.1) ((helpers-is p.1).1 (p.0, p.2)) p.3),
  )

  pub can_make-is : (o : ℕ) → (can_make m start n k o ≡ true) ↔ MadeWith m o
  unfolding can_make
  can_make-is o = (
    λ t. let (u, v, r, s) = (some-helper (λ v. makes_with m v o)).0 t in let (a, c) = (makes-with m v o).0 s in (u, v, r, a, c),
    λ (u, v, r, a, c). (some-helper (λ v. makes_with m v o)).1 (u, v, r, (makes-with m v o).1 (a, c)),
  )

  pub can_modify-is : (o p : ℕ) → (can_modify m start n k o p ≡ true) ↔ ModifiedTo m o p
  unfolding can_modify
  can_modify-is o p = (
    λ t. let (u, v, r, s) = (some-helper (λ v. modifies_to m v o p)).0 t in let (a, c) = (modifies-to m v o p).0 s in (u, v, r, a, c),
    λ (u, v, r, a, c). (some-helper (λ v. modifies_to m v o p)).1 (u, v, r, (modifies-to m v o p).1 (a, c)),
  )

  modify-below : (x y : ℕ) → ((y < k) × (can_modify m start n k x y ≡ true)) ↔ ModifiedTo m x y
  modify-below x y = (λ p. (can_modify-is x y).0 p.1, λ e. (w.items y e.3, (can_modify-is x y).1 e))

  pub made-is : (o : ℕ) → (in_table (made m start n k) o ≡ true) ↔ ItemMade m o
  unfolding made
  made-is o =
      closure-as k (can_make m start n k) (can_modify m start n k) (MadeWith m) (ModifiedTo m)
      (λ x. (λ p. (can_make-is x).0 p.1, λ e. (w.items x e.3, (can_make-is x).1 e))) modify-below o

  pub item_from-is : (held o : ℕ) → held < k → (in_table (item_from m start n k held) o ≡ true) ↔ ItemFrom m held o
  unfolding item_from
  item_from-is held o h = closure-as k (eqb held) (can_modify m start n k) (λ x. held ≡ x) (ModifiedTo m) (held_below held k h) modify-below o

  item-below : {S : ℕ → Type 0} → ((x : ℕ) → S x → x < k) → {o : ℕ} → Star S (ModifiedTo m) o → o < k
  item-below f {o} (base h) = f o h
  item-below f {o} (more r e) = w.items o e.3

  pub which-below : (which : Which) (o : ℕ) → AskedWhich m start which → WhichReach m start which o → o < k
  which-below (item j) o a r = let h = w.starting j a in item-below (λ x e. rw e at h) r
  which-below anything o a (inl r) = item-below (λ x e. w.items x e.3) r
  which-below anything o a (inr (j, l, r)) = let h = w.starting j l in item-below (λ x e. rw e at h) r

  pub which_can-is : (which : Which) (o : ℕ) → AskedWhich m start which → (which_can m start n k which o ≡ true) ↔ WhichReach m start which o
  unfolding which_can
  which_can-is (item j) o a = item_from-is (item_at start j) o (w.starting j a)
  which_can-is anything o a = (λ t. go (either-of (in_table (made m start n k) o) (some_below f (length start.items)) t), λ r. either (in_table (made m start n k) o) (some_below f (length start.items)) (back r))
    where
      f : ℕ → Bool
      f j = in_table (item_from m start n k (item_at start j)) o

      go : (in_table (made m start n k) o ≡ true) ⊎ (some_below f (length start.items) ≡ true) → WhichReach m start anything o
      go (inl t) = inl ((made-is o).0 t)
      go (inr t) = let (j, l, s) = (some_below_lem f (length start.items)).0 t in inr (j, l, (item_from-is (item_at start j) o (w.starting j l)).0 s)

      back : WhichReach m start anything o → (in_table (made m start n k) o ≡ true) ⊎ (some_below f (length start.items) ≡ true)
      back (inl r) = inl ((made-is o).1 r)
      back (inr (j, l, r)) = inr ((some_below_lem f (length start.items)).1 (j, l, (item_from-is (item_at start j) o (w.starting j l)).1 r))

  module _ (b : Brought m start) where
    pub started_below : (j u held : ℕ) → session_at start j ≡ opened u held → held < n
    started_below j u held e = (reach-below (b j u held e)).1

    from-below : (u : ℕ) {held v : ℕ} → held < n → ReachFrom m u held v → v < n
    from-below u h (base e) = rw e at h
    from-below u {v = v} h (more r e) = w.sessions v e.0

    pub who-below : (who : Who) (u v : ℕ) → WhoReach m start who u v → (u < m.users) × (v < n)
    who-below (session j) u v (held, e, r) = ((reach-below (b j u held e)).0, from-below u (started_below j u held e) r)
    who-below (user a) u v (e, r) = reach-below r
    who-below anyone u v r = reach-below r

    of_one-is : (j : ℕ) (x : Session) → session_at start j ≡ x → (u v : ℕ) → (of_one m start n k x u v ≡ true) ↔ WhoReach m start (session j) u v
    unfolding of_one
    of_one-is j closed e u v = (λ t. not-both refl t, λ p. absurd (not-closed (sym e ∙ p.1)))
    of_one-is j (opened owner held) e u v =
        let f = reached_from-is owner held v (started_below j owner held e) in (
          λ t.
              let (a, c) = both_of (eqb u owner) (in_table (reached_from m n owner held) v) t in
              let q : u ≡ owner = eqb-true u owner a in
              (held, rw q e, rw q (f.0 c)),
          λ p.
              let g : opened owner held ≡ opened u p.0 = sym e ∙ p.1 in
              let q : u ≡ owner = cc in
              let z : p.0 ≡ held = cc in
              both (eqb u owner) (in_table (reached_from m n owner held) v) (eq-eqb u owner q)
              (f.1 (subst (λ (y : ℕ). ReachFrom m owner y v) z (subst (λ (y : ℕ). ReachFrom m y p.0 v) q p.2))),
        )

    pub who_can-is : (who : Who) (u v : ℕ) → (who_can m start n k who u v ≡ true) ↔ WhoReach m start who u v
    unfolding who_can
    who_can-is (session j) u v = of_one-is j (session_at start j) refl u v
    who_can-is (user a) u v = (
      λ t. let (x, y) = both_of (eqb u a) (in_table (reached m n u) v) t in (eqb-true u a x, (reached-is u v).0 y),
      λ p. both (eqb u a) (in_table (reached m n u) v) (eq-eqb u a p.0) ((reached-is u v).1 p.1),
    )
    who_can-is anyone u v = reached-is u v

    pub leaks-is : (who : Who) (which : Which) (permission : ℕ) → AskedWhich m start which → (leaks m start n k who which permission ≡ true) ↔ Risk m start who which permission
    unfolding leaks
    leaks-is who which permission c = (
      λ t.
          let (u, i, t₁) = (some_below_lem of_user m.users).0 t in
          let (v, j, t₂) = (some_below_lem (of_value u) n).0 t₁ in
          let (a, t₃) = both_of (who_can m start n k who u v) (some_below (of_item v) k) t₂ in
          let (o, l, t₄) = (some_below_lem (of_item v) k).0 t₃ in
          let (d, t₅) = both_of (which_can m start n k which o) (accesses m permission v o) t₄ in
          let (e, f) = (accesses-is m permission v o).0 t₅ in
          record { owner = u; held = v; content = o; actor = (who_can-is who u v).0 a; target = (which_can-is which o c).0 d; known = e; allowed = f },
      λ r.
          let u = r.owner in
          let v = r.held in
          let o = r.content in
          let (i, j) = who-below who u v r.actor in
          let t₅ = (accesses-is m permission v o).1 (r.known, r.allowed) in
          let t₄ = both (which_can m start n k which o) (accesses m permission v o) ((which_can-is which o c).1 r.target) t₅ in
          let t₃ = (some_below_lem (of_item v) k).1 (o, which-below which o c r.target, t₄) in
          let t₂ = both (who_can m start n k who u v) (some_below (of_item v) k) ((who_can-is who u v).1 r.actor) t₃ in
          (some_below_lem of_user m.users).1 (u, i, (some_below_lem (of_value u) n).1 (v, j, t₂)),
    )
      where
        of_item : ℕ → ℕ → Bool
        of_item v o = which_can m start n k which o && accesses m permission v o

        of_value : ℕ → ℕ → Bool
        of_value u v = who_can m start n k who u v && some_below (of_item v) k

        of_user : ℕ → Bool
        of_user u = some_below (of_value u) n
