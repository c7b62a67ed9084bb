-- Laws of searches of items as the program makes them. In order: the values of the starting items; the last session value that may make an item; what is
-- asked by item values and by session values, from one place after another; session values that can be had, by their lanes.
use mathlib.Core.Path.{◌≡◌, refl, sym, ap, ◌∙◌}
use mathlib.Core.Bool.{Bool, true, false, not, ◌&&◌, cond, false≢true}
use mathlib.Core.List.{List}
use Prim.Native.Nat.{ℕ, zero, suc, ◌+◌, ◌-◌, ◌≤◌, ◌<◌}
use native.Mathlib.Numerals.{add-one}
use native.Mathlib.Omega.{arith}
use lib.Dec.{ltb}
use lib.ListN.{get_or}
use Rattle.lanes.specs.Lanes.{lane_of, Lanes, last_below, highest_of}
use Rattle.lanes.proofs.Laws.{lanes-as, last-ext, highest-lanes, highest-last}
use Rattle.runs.specs.Model.{Model}
use Rattle.runs.specs.Edge.{makes_with}
use Rattle.search.specs.Queue.{pushed, unmet}
use Rattle.search.specs.Items.{Had, last_maker, asked, offered_by, offered, items_at, grow_items, ready_of, start_roots}
use Rattle.search.specs.declared.queue.Found.{Found}
use Rattle.search.proofs.Laws.{turn, skip}

-- the values of the starting items
module _ (values : List ℕ) (q : Found) where
  pub start-start : q ≡ start_roots values q 0
  unfolding start_roots
  start-start = refl

  pub start-turn : (j value : ℕ) (r : Found) (b : Bool) → value ≡ get_or values j 0 → r ≡ start_roots values q j → not (lane_of r.seen value) ≡ b
      → cond b (pushed r value 0 (256 + j)) r ≡ start_roots values q (j + 1)
  unfolding start_roots
  start-turn j value r b e h t =
      rw e
      (turn (start_roots values q) (λ x. not (lane_of x.seen (get_or values j 0))) (λ x. pushed x (get_or values j 0) 0 (256 + j)) j refl r b h
      (ap (λ (k : ℕ). not (lane_of r.seen k)) (sym e) ∙ t))

-- the last number, or 256
last-le : (f : ℕ → Bool) (n : ℕ) → n ≤ 256 → last_below f n ≤ 256
unfolding last_below
last-le f zero h = omega arith
last-le f (suc n) h = go (f n) (last-le f n (omega arith))
  where
    go : (b : Bool) → last_below f n ≤ 256 → cond b n (last_below f n) ≤ 256
    go true l = omega arith
    go false l = l

pub highest-le : (x : List ℕ) → highest_of x ≤ 256
highest-le x = rw (highest-last x) (last-le (lane_of x) 256 (omega arith))

-- the last session value that may make an item, where the tests of the lists hold
pub made-last : (m : Model) (n : ℕ) (ready row : List ℕ) → Had m ready → m.item_value n ≡ true → Lanes (λ (v : ℕ). lane_of ready v && m.may_make v n) row
    → highest_of row ≡ last_maker m (lane_of ready) n
unfolding last_maker makes_with
made-last m n ready row H listed R =
    highest-lanes (λ v. lane_of ready v && (m.session_value v && (m.item_value n && m.may_make v n))) row (lanes-as _ _ row R (λ v h. go v h (lane_of ready v) refl))
  where
    go : (v : ℕ) → v < 256 → (b : Bool) → lane_of ready v ≡ b → b && m.may_make v n ≡ b && (m.session_value v && (m.item_value n && m.may_make v n))
    go v h true e = rw (H v h e, listed) refl
    go v h false e = refl

module _ (m : Model) (ready : ℕ → Bool) (q : Found) where
  -- one item value after another
  resting : (v : ℕ) → unmet m.item_value q v ≡ false → asked m ready q (suc v) ≡ asked m ready q v
  unfolding asked
  resting v e = rw e refl

  pub asked-start : (y : ℕ) → ((v : ℕ) → v < y → unmet m.item_value q v ≡ false) → q ≡ asked m ready q y
  unfolding asked
  asked-start y h = skip (asked m ready q) 0 y (omega arith) (λ v l g. resting v (h v g))

  pub asked-next : (n z by : ℕ) (r : Found) (b : Bool) → by ≡ last_maker m ready n → r ≡ asked m ready q n → unmet m.item_value q n ≡ true → ltb by 256 ≡ b → n < z
      → ((v : ℕ) → n < v → v < z → unmet m.item_value q v ≡ false) → cond b (pushed r n 0 by) r ≡ asked m ready q z
  unfolding asked
  asked-next n z by r b e i t u l h =
      rw e
      (turn (asked m ready q) (λ x. unmet m.item_value q n && ltb (last_maker m ready n) 256) (λ x. pushed x n 0 (last_maker m ready n)) n refl r b i
      (rw t (ap (λ (k : ℕ). ltb k 256) (sym e) ∙ u)))
      ∙ skip (asked m ready q) (n + 1) z (omega arith) (λ v a c. resting v (h v (omega arith) c))

  -- one session value after another
  pub offered-start : (i : ℕ) → q ≡ offered m ready q i 0
  unfolding offered
  offered-start i = refl

  pub offered-turn : (i k : ℕ) → offered_by m ready (get_or q.order i 0) (offered m ready q i k) i k ≡ offered m ready q i (k + 1)
  unfolding offered
  offered-turn i k = sym (ap (offered m ready q i) (add-one k))

  -- from one place after another, of items
  pub items-start : q ≡ grow_items m ready q 0
  unfolding grow_items
  items-start = refl

  pub items-turn : (i : ℕ) → items_at m ready (grow_items m ready q i) i ≡ grow_items m ready q (i + 1)
  unfolding grow_items
  items-turn i = sym (ap (grow_items m ready q) (add-one i))

-- session values that can be had, by their lanes
module _ (m : Model) (f g : ℕ → Bool) (e : (v : ℕ) → v < 256 → f v ≡ g v) where
  last-maker-ext : (n : ℕ) → last_maker m f n ≡ last_maker m g n
  unfolding last_maker
  last-maker-ext n = last-ext _ _ 256 (λ v h. ap (λ (b : Bool). b && (m.session_value v && makes_with m v n)) (e v h))

  pub asked-ext : (q : Found) (n : ℕ) → asked m f q n ≡ asked m g q n
  unfolding asked
  asked-ext q zero = refl
  asked-ext q (suc n) = rw (last-maker-ext n, asked-ext q n) refl

  offered-ext : (q : Found) (i k : ℕ) → offered m f q i k ≡ offered m g q i k
  unfolding offered
  offered-ext q i zero = refl
  offered-ext q i (suc k) = rw (e (255 - k) (omega arith), offered-ext q i k) refl

  pub items-ext : (q : Found) (n : ℕ) → grow_items m f q n ≡ grow_items m g q n
  unfolding grow_items
  items-ext q zero = refl
  items-ext q (suc i) = rw (items-ext q i, offered-ext (grow_items m g q i) i 256) refl

-- those that helpers have, in the lists
module _ (m : Model) (helpers own both : List ℕ) (S : Lanes m.session_value own) (B : Lanes (λ (v : ℕ). lane_of helpers v && lane_of own v) both) where
  pub ready-lanes : Lanes (ready_of m (lane_of helpers)) both
  unfolding ready_of
  ready-lanes = lanes-as _ _ both B (λ v h. ap (λ (b : Bool). lane_of helpers v && b) (S.each v h))

  pub ready-had : Had m both
  ready-had v h e = sym (S.each v h) ∙ right (lane_of helpers v) (lane_of own v) (sym (B.each v h) ∙ e)
    where
      right : (a b : Bool) → a && b ≡ true → b ≡ true
      right true b t = t
      right false b t = absurd (false≢true t)

  pub ready-asked : (q : Found) (n : ℕ) → asked m (lane_of both) q n ≡ asked m (ready_of m (lane_of helpers)) q n
  ready-asked = asked-ext m (lane_of both) (ready_of m (lane_of helpers)) ready-lanes.each
