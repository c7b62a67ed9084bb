-- Searches of items: each place is worked off by one session value after another. In order: one place; all places; the roots that stand at the start;
-- those and the ones that are made.
use mathlib.Core.Path.{◌≡◌, refl}
use mathlib.Core.Bool.{Bool, true, false, not, ◌&&◌}
use mathlib.Core.List.{List}
use mathlib.Core.Logic.{◌⊎◌, inl, inr}
use Prim.Native.Nat.{ℕ, zero, suc, ◌+◌, ◌-◌, ◌≤◌, ◌<◌}
use native.Mathlib.Decide.{ℕ_discrete}
use native.Mathlib.Omega.{arith}
use borrow.Author.Tests.{not-true, not-false}
use lib.ListN.{length, get_or}
use Rattle.lanes.specs.Lanes.{lane_of, some_below}
use Rattle.runs.specs.Model.{Model}
use Rattle.runs.specs.Edge.{makes_with, modifies_to}
use Rattle.verdict.proofs.Below.{both_of}
use Rattle.verdict.proofs.Decided.{modifies-to}
use Rattle.search.specs.Queue.{nothing, pushed, unmet, spread}
use Rattle.search.specs.Items.{asked, offered, grow_items, ready_of, start_roots}
use Rattle.search.specs.Searched.{value_at, Good, Searched}
use Rattle.search.specs.Claims.{Modify, Begun}
use Rattle.search.specs.declared.queue.Found.{Found}
use Rattle.search.proofs.Turns.{chosen, all-met, ready-is, offered-none, offered-turn, grow-items-none, grow-items-turn, start_none, start-turn}
use Rattle.search.proofs.Pushing.{start, next, nothing-good}
use Rattle.search.proofs.Spreading.{Brings, brings-none, brings-stay, brings-push, brings-then, spread-brings}
use Rattle.search.proofs.Asking.{May, asked-brings}
use Rattle.search.proofs.Growing.{Seeking, seeking-start, seeking-turn, seeking-end}

-- one place, by some of the session values that can be had
module _ (m : Model) (helper ready : ℕ → Bool) (had : (v : ℕ) → v < 256 → ready v ≡ true → ready_of m helper v ≡ true) (S : ℕ → ℕ → Type 0) where
  modify : (o v n : ℕ) → v < 256 → ready v ≡ true → modifies_to m v o n ≡ true → Modify m helper o v n
  modify o v n h e t = let (a, b) = (ready-is m helper v).0 (had v h e) in (h, a, b, t)

  -- what the last k session values may change an item to that has value x
  abbrev pub By : ℕ → ℕ → ℕ → Type 0
  By x k y = (w : ℕ) × (w < 256) × (256 ≤ w + k) × (ready w ≡ true) × (modifies_to m w x y ≡ true)

  by_less : (x k y : ℕ) → k < 256 → (z : By x (suc k) y) → Dec (z.0 ≡ 255 - k) → By x k y ⊎ ((ready (255 - k) ≡ true) × (modifies_to m (255 - k) x y ≡ true))
  by_less x k y h (w, l, g, a, b) (yes e) = inr (rw e at a, rw e at b)
  by_less x k y h (w, l, g, a, b) (no d) = inl (w, l, omega arith, a, b)

  module _ (q : Found) (i : ℕ) (G : Good S (Modify m helper) q) (h : i < q.len) where
    taken : (k : ℕ) (r : Found) → k < 256 → Brings S (Modify m helper) q (By (value_at q i) k) r → ready (255 - k) ≡ true
        → Brings S (Modify m helper) q (By (value_at q i) (suc k)) (spread (modifies_to m (255 - k) (value_at q i)) r (i + 1) (255 - k))
    taken k r l b e =
        brings-then S (Modify m helper) q _ r (λ y. modifies_to m (255 - k) (value_at q i) y ≡ true) _ _ b
        (spread-brings S (Modify m helper) (modifies_to m (255 - k) (value_at q i)) r (i + 1) (255 - k) b.good
        (λ y g t. next i refl (omega (arith, b.grows.longer)) (rw (b.grows.value i h) (modify (value_at q i) (255 - k) y (omega arith) e t))))
        (λ v g z. go v (by_less (value_at q i) k v l z (ℕ_discrete z.0 (255 - k))))
      where
        go : (v : ℕ) → By (value_at q i) k v ⊎ ((ready (255 - k) ≡ true) × (modifies_to m (255 - k) (value_at q i) v ≡ true))
            → By (value_at q i) k v ⊎ (modifies_to m (255 - k) (value_at q i) v ≡ true)
        go v (inl z) = inl z
        go v (inr z) = inr z.1

    -- session value 255 - k is not one of them, or all item values are seen
    left : (k : ℕ) (r : Found) → k < 256 → Brings S (Modify m helper) q (By (value_at q i) k) r → ready (255 - k) && some_below (unmet m.item_value r) 256 ≡ false
        → Brings S (Modify m helper) q (By (value_at q i) (suc k)) r
    left k r l b e = brings-stay S (Modify m helper) q _ _ r b (λ v g z. go v g (by_less (value_at q i) k v l z (ℕ_discrete z.0 (255 - k))))
      where
        go : (v : ℕ) → v < 256 → By (value_at q i) k v ⊎ ((ready (255 - k) ≡ true) × (modifies_to m (255 - k) (value_at q i) v ≡ true))
            → By (value_at q i) k v ⊎ (lane_of r.seen v ≡ true)
        go v g (inl z) = inl z
        go v g (inr (a, t)) =
            let met : some_below (unmet m.item_value r) 256 ≡ false = rw a at e in
            inr (all-met m.item_value r met v g ((modifies-to m (255 - k) (value_at q i) v).0 t).0)

    -- by session values
    pub offered-brings : (k : ℕ) → k ≤ 256 → Brings S (Modify m helper) q (By (value_at q i) k) (offered m ready q i k)
    offered-brings zero l = rw (offered-none m ready q i) (brings-none S (Modify m helper) q _ G (λ v (w, a, b, c, t). omega arith))
    offered-brings (suc k) l =
        let b : Brings S (Modify m helper) q (By (value_at q i) k) (offered m ready q i k) = offered-brings k (omega arith) in
        rw (offered-turn m ready q i k)
        (chosen (Brings S (Modify m helper) q (By (value_at q i) (suc k))) _ _ _
        (λ e. taken k _ (omega arith) b (both_of (ready (255 - k)) (some_below (unmet m.item_value (offered m ready q i k)) 256) e).0) (λ e. left k _ (omega arith) b e))

-- all places
module _ (m : Model) (helper : ℕ → Bool) (S : ℕ → ℕ → Type 0) where
  modify-item : (o v n : ℕ) → Modify m helper o v n → m.item_value n ≡ true
  modify-item o v n (h, a, b, t) = ((modifies-to m v o n).0 t).0

  place-brings : (q : Found) (i : ℕ) → Good S (Modify m helper) q → i < q.len
      → Brings S (Modify m helper) q (λ v. (via : ℕ) × Modify m helper (value_at q i) via v) (offered m (ready_of m helper) q i 256)
  place-brings q i G h =
      brings-stay S (Modify m helper) q _ _ _ (offered-brings m helper (ready_of m helper) (λ v l e. e) S q i G h 256 (omega arith))
      (λ v l (w, (a, b, c, t)). inl (w, a, omega arith, (ready-is m helper w).1 (b, c), t))

  pub grow-items-seeks : (q : Found) → Seeking S (Modify m helper) 0 q → (i : ℕ) → Seeking S (Modify m helper) i (grow_items m (ready_of m helper) q i)
  grow-items-seeks q s zero = rw (grow-items-none m (ready_of m helper) q) s
  grow-items-seeks q s (suc i) =
      let r : Seeking S (Modify m helper) i (grow_items m (ready_of m helper) q i) = grow-items-seeks q s i in
      rw (grow-items-turn m (ready_of m helper) q i)
      (seeking-turn S (Modify m helper) m.item_value modify-item i (grow_items m (ready_of m helper) q i) _ r (λ h. place-brings (grow_items m (ready_of m helper) q i) i r.good h))

  pub grow-items-searched : (q : Found) → Seeking S (Modify m helper) 0 q → Searched S (Modify m helper) (grow_items m (ready_of m helper) q 256)
  grow-items-searched q s = seeking-end S (Modify m helper) _ (grow-items-seeks q s 256)

-- the roots that stand at the start
module _ (values : List ℕ) (byte : (j : ℕ) → j < length values → get_or values j 0 < 256) (S : ℕ → ℕ → Type 0) (E : ℕ → ℕ → ℕ → Type 0)
    (c : (j : ℕ) → j < length values → S (256 + j) (get_or values j 0)) (q : Found) where
  abbrev Stands : ℕ → ℕ → Type 0
  Stands n o = (j : ℕ) × (j < n) × (o ≡ get_or values j 0)

  stands-less : (n o : ℕ) → (z : Stands (suc n) o) → Dec (z.0 ≡ n) → Stands n o ⊎ (o ≡ get_or values n 0)
  stands-less n o (j, l, e) (yes w) = inr (rw w at e)
  stands-less n o (j, l, e) (no w) = inl (j, omega arith, e)

  start-taken : (n : ℕ) (r : Found) → n < length values → Brings S E q (Stands n) r → not (lane_of r.seen (get_or values n 0)) ≡ true
      → Brings S E q (Stands (suc n)) (pushed r (get_or values n 0) 0 (256 + n))
  start-taken n r h b e =
      brings-push S E q _ _ r (get_or values n 0) 0 (256 + n) b (byte n h) (not-true (lane_of r.seen (get_or values n 0)) e) (start refl (c n h))
      (λ v l z. stands-less n v z (ℕ_discrete z.0 n))

  start_left : (n : ℕ) (r : Found) → Brings S E q (Stands n) r → not (lane_of r.seen (get_or values n 0)) ≡ false → Brings S E q (Stands (suc n)) r
  start_left n r b e = brings-stay S E q _ _ r b (λ v l z. go v (stands-less n v z (ℕ_discrete z.0 n)))
    where
      go : (v : ℕ) → Stands n v ⊎ (v ≡ get_or values n 0) → Stands n v ⊎ (lane_of r.seen v ≡ true)
      go v (inl z) = inl z
      go v (inr z) = inr (rw z (not-false (lane_of r.seen (get_or values n 0)) e))

  pub start-brings : Good S E q → (n : ℕ) → n ≤ length values → Brings S E q (λ o. (j : ℕ) × (j < n) × (o ≡ get_or values j 0)) (start_roots values q n)
  start-brings G zero h = rw (start_none values q) (brings-none S E q _ G (λ v t. omega (arith, t.1)))
  start-brings G (suc n) h =
      let b : Brings S E q (Stands n) (start_roots values q n) = start-brings G n (omega arith) in
      rw (start-turn values q n) (chosen (Brings S E q (Stands (suc n))) _ _ _ (λ e. start-taken n _ (omega arith) b e) (λ e. start_left n _ b e))

-- the starting items, then those that are made
pub begun : (m : Model) (helper : ℕ → Bool) (values : List ℕ) → ((j : ℕ) → j < length values → get_or values j 0 < 256) → (E : ℕ → ℕ → ℕ → Type 0)
    → Seeking (Begun m helper values) E 0 (asked m (ready_of m helper) (start_roots values nothing (length values)) 256)
begun m helper values byte E =
    let a = start-brings values byte (Begun m helper values) E (λ j h. inl (j, h, refl, refl)) nothing (nothing-good _ E) (length values) (omega arith) in
    let b = asked-brings m (ready_of m helper) (Begun m helper values) E _ a.good (λ n v p. inr (may-make n v p)) in
    seeking-start _ E nothing _ (brings-then _ E nothing _ _ _ _ _ a b (λ v h z. which v z.0 z.1))
  where
    may-make : (n v : ℕ) → May m (ready_of m helper) n v → (v < 256) × (helper v ≡ true) × (m.session_value v ≡ true) × (makes_with m v n ≡ true)
    may-make n v (a, b, c, d) = (a, ((ready-is m helper v).0 b).0, c, d)

    which : (v via : ℕ) → Begun m helper values via v → ((j : ℕ) × (j < length values) × (v ≡ get_or values j 0)) ⊎ ((w : ℕ) × May m (ready_of m helper) v w)
    which v via (inl (j, l, e, z)) = inl (j, l, z)
    which v via (inr (l, a, b, c)) = inr (via, (l, (ready-is m helper via).1 (a, b), b, c))
