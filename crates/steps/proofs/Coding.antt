-- Cells that code a run's state still do so after each way of writing them. In order: lists; a session is added; a session is changed;
-- an item is added; an item is changed.
use mathlib.Core.Path.{◌≡◌, refl, sym, ap, ◌∙◌, subst}
use mathlib.Core.Bool.{true}
use mathlib.Core.List.{List, [], ◌∷◌, ◌++◌}
use mathlib.Core.Option.{some}
use Prim.Native.Nat.{ℕ, zero, suc, ◌+◌, ◌<◌}
use native.Mathlib.Decide.{ℕ_discrete, dec_lt}
use native.Mathlib.Omega.{arith}
use borrow.Author.Tests.{ltb-true}
use lib.Dec.{ltb}
use lib.ListN.{length, get_or, set, length-set, length-append}
use lib.Seq.{get_or-set_same, get_or-set_other, get_or-append_seam}
use Rattle.bits.proofs.Set.{both_true}
use Rattle.runs.specs.Model.{Model}
use Rattle.runs.specs.State.{Session, closed, opened, State, session_at, item_at as value_at}
use Rattle.runs.proofs.Laws.{state}
use Rattle.cells.specs.Cell.{place_of, open_cell, closed_cell, item_cell}
use Rattle.cells.specs.Claims.{SessionThere, ItemThere}
use Rattle.cells.proofs.Laws.{session-reads, session-opened, session-closed, session-other, session-raised, item-reads, item-written, item-other, item-raised}
use Rattle.live.specs.Lent.{Lent, numbers, left}
use Rattle.steps.specs.Step.{session_now, item_now, with_session, with_item, session_given, item_given}
use Rattle.steps.specs.Codes.{Bytes, Codes}

-- one more at the end changes no other place
added-other : {A : Type 0} (l : List A) (x d : A) (k : ℕ) → (k ≡ length l → ⊥) → get_or (l ++ x ∷ []) k d ≡ get_or l k d
added-other [] x d zero n = absurd (n refl)
added-other [] x d (suc k) n = refl
added-other (y ∷ l) x d zero n = refl
added-other (y ∷ l) x d (suc k) n = added-other l x d k (λ e. n (omega arith))

added-length : {A : Type 0} (l : List A) (x : A) → length (l ++ x ∷ []) ≡ length l + 1
added-length l x = length-append l (x ∷ [])

below_other : (k n : ℕ) → k < n + 1 → (k ≡ n → ⊥) → k < n
below_other k n h e = go (dec_lt k n)
  where
    go : Dec (k < n) → k < n
    go (yes l) = l
    go (no l) = absurd (e (omega arith))

-- a number and a cell are left
pub left-holds : (cells : List ℕ) (next : ℕ) → left cells next ≡ true → (next < numbers) × (place_of next < length cells)
unfolding left
left-holds cells next e =
    let (a, b) = both_true (ltb next numbers) (ltb (place_of next) (length cells)) e in
    (ltb-true next numbers a, ltb-true (place_of next) (length cells) b)

module _ (m : Model) (bytes : Bytes m) (s : Lent) (t : State) (c : Codes m s t) where
  -- a user of the model is a byte
  byte : (u : ℕ) → u < m.users → u < 256
  byte u h = omega (arith, bytes.users)

  pub session-coded : (k u v : ℕ) → session_at t k ≡ opened u v → SessionThere m.users m.session_value s.sessions s.next.session k u v
  unfolding session_now
  session-coded k u v e = session-reads m.users m.session_value s.sessions s.next.session k u v (c.each-session k ∙ e)

  pub item-coded : (k : ℕ) → k < length t.items → ItemThere m.item_value s.items s.next.item k (value_at t k)
  unfolding item_now
  item-coded k h = item-reads m.item_value s.items s.next.item k (value_at t k) (c.each_item k h)

  -- the next number becomes an open session
  opened-each : (u v : ℕ) → u < m.users → m.session_value v ≡ true → left s.sessions s.next.session ≡ true → (k : ℕ) → Dec (k ≡ s.next.session)
      → session_now m (session_given (with_session s s.next.session (open_cell u v))) k ≡ session_at (state (t.sessions ++ opened u v ∷ []) t.items) k
  unfolding session_now with_session session_given session_at
  opened-each u v h l r k (yes e) =
      let n = s.next.session in
      let a : k ≡ length t.sessions = e ∙ c.session-count in
      subst
      (λ (j : ℕ). session_now m (session_given (with_session s n (open_cell u v))) j ≡ get_or (t.sessions ++ opened u v ∷ []) k closed)
      (sym e)
      (session-opened m.users m.session_value s.sessions (n + 1) n u v (omega arith) (left-holds s.sessions n r).1 h (byte u h) (bytes.sessions v l) l
      ∙ sym (ap (λ (j : ℕ). get_or (t.sessions ++ opened u v ∷ []) j closed) a ∙ get_or-append_seam t.sessions (opened u v) [] closed))
  opened-each u v h l r k (no e) =
      let n = s.next.session in
      session-other m.users m.session_value s.sessions (n + 1) k n (open_cell u v) e
      ∙ session-raised m.users m.session_value s.sessions n k e
      ∙ c.each-session k
      ∙ sym (added-other t.sessions (opened u v) closed k (λ d. e (d ∙ sym c.session-count)))

  pub codes-opened : (u v : ℕ) → u < m.users → m.session_value v ≡ true → left s.sessions s.next.session ≡ true
      → Codes m (session_given (with_session s s.next.session (open_cell u v))) (state (t.sessions ++ opened u v ∷ []) t.items)
  unfolding item_now with_session session_given value_at
  codes-opened u v h l r =
      record {
        session-count = omega (arith, c.session-count, added-length t.sessions (opened u v));
        item_count = c.item_count;
        session-numbers = omega (arith, (left-holds s.sessions s.next.session r).0);
        item-numbers = c.item-numbers;
        each-session = λ k. opened-each u v h l r k (ℕ_discrete k s.next.session);
        each_item = c.each_item;
      }

  -- a session that is there is written: with another value, or closed
  session-set-each : (k w : ℕ) (x : Session) → k < length t.sessions → session_now m (with_session s k w) k ≡ x → (j : ℕ) → Dec (j ≡ k)
      → session_now m (with_session s k w) j ≡ session_at (state (set t.sessions k x) t.items) j
  unfolding session_now with_session session_at
  session-set-each k w x h e j (yes d) =
      subst (λ (i : ℕ). session_now m (with_session s k w) i ≡ get_or (set t.sessions k x) i closed) (sym d) (e ∙ sym (get_or-set_same t.sessions k x closed h))
  session-set-each k w x h e j (no d) =
      session-other m.users m.session_value s.sessions s.next.session j k w d
      ∙ c.each-session j
      ∙ sym (get_or-set_other t.sessions k j x closed d)

  session-set : (k w : ℕ) (x : Session) → k < length t.sessions → session_now m (with_session s k w) k ≡ x
      → Codes m (with_session s k w) (state (set t.sessions k x) t.items)
  unfolding item_now with_session value_at
  session-set k w x h e =
      record {
        session-count = omega (arith, c.session-count, length-set t.sessions k x);
        item_count = c.item_count;
        session-numbers = c.session-numbers;
        item-numbers = c.item-numbers;
        each-session = λ j. session-set-each k w x h e j (ℕ_discrete j k);
        each_item = c.each_item;
      }

  pub codes-closed : (k u v : ℕ) → session_at t k ≡ opened u v → Codes m (with_session s k closed_cell) (state (set t.sessions k closed) t.items)
  unfolding session_now with_session
  codes-closed k u v e =
      session-set k closed_cell closed (omega (arith, c.session-count, (session-coded k u v e).given))
      (session-closed m.users m.session_value s.sessions s.next.session k)

  pub codes-changed : (k u v w : ℕ) → session_at t k ≡ opened u v → m.session_value w ≡ true
      → Codes m (with_session s k (open_cell u w)) (state (set t.sessions k (opened u w)) t.items)
  unfolding session_now with_session
  codes-changed k u v w e l =
      let there = session-coded k u v e in
      session-set k (open_cell u w) (opened u w) (omega (arith, c.session-count, there.given))
      (session-opened m.users m.session_value s.sessions s.next.session k u w
      there.given there.celled there.known (byte u there.known) (bytes.sessions w l) l)

  -- the next number becomes an item
  made_each : (o : ℕ) → m.item_value o ≡ true → left s.items s.next.item ≡ true → (k : ℕ) → k < length (t.items ++ o ∷ []) → Dec (k ≡ s.next.item)
      → item_now m (item_given (with_item s s.next.item (item_cell o))) k ≡ some (value_at (state t.sessions (t.items ++ o ∷ [])) k)
  unfolding item_now with_item item_given value_at
  made_each o l r k i (yes e) =
      let n = s.next.item in
      let a : k ≡ length t.items = e ∙ c.item_count in
      subst
      (λ (j : ℕ). item_now m (item_given (with_item s n (item_cell o))) j ≡ some (get_or (t.items ++ o ∷ []) k 0))
      (sym e)
      (item-written m.item_value s.items (n + 1) n o (omega arith) (left-holds s.items n r).1 (bytes.items o l) l
      ∙ sym (ap (λ (j : ℕ). some (get_or (t.items ++ o ∷ []) j 0)) a ∙ ap some (get_or-append_seam t.items o [] 0)))
  made_each o l r k i (no e) =
      let n = s.next.item in
      let i' : k < n + 1 = omega (arith, i, c.item_count, added-length t.items o) in
      let b : k < length t.items = subst (λ (j : ℕ). k < j) c.item_count (below_other k n i' e) in
      item-other m.item_value s.items (n + 1) k n (item_cell o) e
      ∙ item-raised m.item_value s.items n k e
      ∙ c.each_item k b
      ∙ ap some (sym (added-other t.items o 0 k (λ d. e (d ∙ sym c.item_count))))

  pub codes-made : (o : ℕ) → m.item_value o ≡ true → left s.items s.next.item ≡ true
      → Codes m (item_given (with_item s s.next.item (item_cell o))) (state t.sessions (t.items ++ o ∷ []))
  unfolding session_now with_item item_given session_at
  codes-made o l r =
      record {
        session-count = c.session-count;
        item_count = omega (arith, c.item_count, added-length t.items o);
        session-numbers = c.session-numbers;
        item-numbers = omega (arith, (left-holds s.items s.next.item r).0);
        each-session = c.each-session;
        each_item = λ k i. made_each o l r k i (ℕ_discrete k s.next.item);
      }

  -- an item that is there is written
  modified-each : (k o : ℕ) → k < length t.items → m.item_value o ≡ true → (j : ℕ) → j < length (set t.items k o) → Dec (j ≡ k)
      → item_now m (with_item s k (item_cell o)) j ≡ some (value_at (state t.sessions (set t.items k o)) j)
  unfolding item_now with_item value_at
  modified-each k o h l j i (yes d) =
      let there = item-coded k h in
      subst (λ (j : ℕ). item_now m (with_item s k (item_cell o)) j ≡ some (get_or (set t.items k o) j 0)) (sym d)
      (item-written m.item_value s.items s.next.item k o there.given there.celled (bytes.items o l) l
      ∙ ap some (sym (get_or-set_same t.items k o 0 h)))
  modified-each k o h l j i (no d) =
      item-other m.item_value s.items s.next.item j k (item_cell o) d
      ∙ c.each_item j (omega (arith, i, length-set t.items k o))
      ∙ ap some (sym (get_or-set_other t.items k j o 0 d))

  pub codes-modified : (k o : ℕ) → k < length t.items → m.item_value o ≡ true → Codes m (with_item s k (item_cell o)) (state t.sessions (set t.items k o))
  unfolding session_now with_item session_at
  codes-modified k o h l =
      record {
        session-count = c.session-count;
        item_count = omega (arith, c.item_count, length-set t.items k o);
        session-numbers = c.session-numbers;
        item-numbers = c.item-numbers;
        each-session = c.each-session;
        each_item = λ j i. modified-each k o h l j i (ℕ_discrete j k);
      }
