-- Laws of cells. In order: what a test picks; places, and a cell that is written; the next number; the codes; sessions: what a cell codes, what
-- the lent cells say, a further number given, a cell written; items, alike.
-- Not here: rows (Rows).
use mathlib.Core.Path.{◌≡◌, refl, sym, ap, ◌∙◌, subst}
use mathlib.Core.Bool.{Bool, true, false, ◌&&◌, cond}
use mathlib.Core.List.{List}
use mathlib.Core.Option.{Option, none, some}
use Prim.Native.Nat.{ℕ, ◌+◌, ◌*◌, ◌/◌, ◌%◌, ◌≤◌, ◌<◌}
use native.Mathlib.Decide.{dec_lt}
use native.Mathlib.Omega.{arith}
use borrow.Author.Tests.{ltb-true, lt-ltb, le-ltb, eqb-true}
use lib.Dec.{ltb, eqb}
use lib.ListN.{length, get_or, set, length-set, get_or-eq_default}
use lib.Seq.{get_or-set_same, get_or-set_other}
use Rattle.bits.proofs.Set.{both_true}
use Rattle.runs.specs.State.{Session, closed, opened}
use Rattle.runs.proofs.Laws.{not-closed}
use Rattle.std.specs.Prelude.{Option as Read, Some, None}
use Rattle.cells.specs.Cell.{place_of, open_cell, closed_cell, item_cell, session_in, session_at, session_read, item_in, item_at}
use Rattle.cells.specs.declared.Session.{Session as OpenSession}
use Rattle.cells.specs.Claims.{SessionThere, ItemThere}

module _ {A : Type 0} where
  cond_same : (b : Bool) (x : A) → cond b x x ≡ x
  cond_same true x = refl
  cond_same false x = refl

  -- what is not the second is the first
  cond-true : (b : Bool) (x y z : A) → cond b x y ≡ z → (y ≡ z → ⊥) → (b ≡ true) × (x ≡ z)
  cond-true true x y z e n = (refl, e)
  cond-true false x y z e n = absurd (n e)

not_none : {v : ℕ} → Path (Option ℕ) none (some v) → ⊥
not_none e = let z : ◌≡◌ {A = ℕ} 0 1 = cc in omega arith

-- places

-- for who lays cells out from the first on; for any other place_of-other is enough
pub place_of-is : (k : ℕ) → place_of k ≡ k
unfolding place_of
place_of-is k = refl

pub place_of-other : (j k : ℕ) → (j ≡ k → ⊥) → place_of j ≡ place_of k → ⊥
place_of-other j k n e = n (sym (place_of-is j) ∙ e ∙ place_of-is k)

-- nothing stands where there is no cell
pub cell-past : (cells : List ℕ) (k : ℕ) → length cells ≤ place_of k → get_or cells (place_of k) 0 ≡ 0
cell-past cells k h = get_or-eq_default cells 0 {n = place_of k} h

-- a number whose cell is not 0 has a cell
cell-inside : (cells : List ℕ) (k : ℕ) → 0 < get_or cells (place_of k) 0 → place_of k < length cells
cell-inside cells k h = go (dec_lt (place_of k) (length cells))
  where
    go : Dec (place_of k < length cells) → place_of k < length cells
    go (yes l) = l
    go (no l) = absurd (omega (arith, cell-past cells k (omega arith)))

written : (cells : List ℕ) (k c : ℕ) → place_of k < length cells → get_or (set cells (place_of k) c) (place_of k) 0 ≡ c
written cells k c h = get_or-set_same cells (place_of k) c 0 h

cleared : (cells : List ℕ) (k : ℕ) → get_or (set cells (place_of k) 0) (place_of k) 0 ≡ 0
cleared cells k = go (dec_lt (place_of k) (length cells))
  where
    go : Dec (place_of k < length cells) → get_or (set cells (place_of k) 0) (place_of k) 0 ≡ 0
    go (yes l) = written cells k 0 l
    go (no l) = cell-past (set cells (place_of k) 0) k (omega (arith, length-set cells (place_of k) 0))

unwritten : (cells : List ℕ) (j k c : ℕ) → (j ≡ k → ⊥) → get_or (set cells (place_of k) c) (place_of j) 0 ≡ get_or cells (place_of j) 0
unwritten cells j k c n = get_or-set_other cells (place_of k) (place_of j) c 0 (place_of-other j k n)

-- raising the next number tells of no other number
raised : (next j : ℕ) → (j ≡ next → ⊥) → ltb j (next + 1) ≡ ltb j next
raised next j n = go (dec_lt j next)
  where
    go : Dec (j < next) → ltb j (next + 1) ≡ ltb j next
    go (yes l) = lt-ltb j (next + 1) (omega arith) ∙ sym (lt-ltb j next l)
    go (no l) = let g : next < j = above (dec_lt next j) in le-ltb j (next + 1) (omega arith) ∙ sym (le-ltb j next (omega arith))
      where
        above : Dec (next < j) → next < j
        above (yes m) = m
        above (no m) = absurd (n (omega arith))

pub open_is : (u v : ℕ) → open_cell u v ≡ 65536 + 256 * u + v
unfolding open_cell
open_is u v = refl

pub item-is : (v : ℕ) → item_cell v ≡ 65536 + v
unfolding item_cell
item-is v = refl

-- sessions

module _ (users : ℕ) (listed : ℕ → Bool) where
  -- a cell that codes a session holds its code
  in-reads : (c u v : ℕ) → session_in users listed c ≡ opened u v → (c ≡ open_cell u v) × (u < users) × (listed v ≡ true)
  unfolding session_in open_cell
  in-reads c u v e =
      let a = c / 256 % 256 in
      let b = c % 256 in
      let (t, p) = cond-true (eqb (c / 65536) 1 && ltb a users && listed b) (opened a b) closed (opened u v) e not-closed in
      let (m, l) = both_true (eqb (c / 65536) 1 && ltb a users) (listed b) t in
      let (o, w) = both_true (eqb (c / 65536) 1) (ltb a users) m in
      let p₀ : a ≡ u = cc in
      let p₁ : b ≡ v = cc in
      (omega (arith, eqb-true (c / 65536) 1 o), subst (λ (z : ℕ). z < users) p₀ (ltb-true a users w), subst (λ (z : ℕ). listed z ≡ true) p₁ l)

  -- the code of a session is read as it
  in-opened : (u v : ℕ) → u < users → u < 256 → v < 256 → listed v ≡ true → session_in users listed (open_cell u v) ≡ opened u v
  unfolding session_in open_cell
  in-opened u v w a b l =
      let c = 65536 + 256 * u + v in
      let e₀ : c / 65536 ≡ 1 = omega arith in
      let e₁ : c / 256 % 256 ≡ u = omega arith in
      let e₂ : c % 256 ≡ v = omega arith in
      simp (e₀, e₁, e₂, lt-ltb u users w, l)

  in-closed : session_in users listed 0 ≡ closed
  unfolding session_in
  in-closed = refl

  module _ (cells : List ℕ) where
    -- a number that was not given
    pub session-past : (next k : ℕ) → next ≤ k → session_at users listed cells next k ≡ closed
    unfolding session_at
    session-past next k h = simp (le-ltb k next h)

    -- a number that was given
    session-is : (next k c : ℕ) → k < next → get_or cells (place_of k) 0 ≡ c → session_at users listed cells next k ≡ session_in users listed c
    unfolding session_at
    session-is next k c h e = simp (lt-ltb k next h, e)

    -- what is there where a session is read
    pub session-reads : (next k u v : ℕ) → session_at users listed cells next k ≡ opened u v → SessionThere users listed cells next k u v
    unfolding session_at
    session-reads next k u v e =
        let c = get_or cells (place_of k) 0 in
        let (t, p) = cond-true (ltb k next) (session_in users listed c) closed (opened u v) e not-closed in
        let (q, w, l) = in-reads c u v p in
        record {
          given = ltb-true k next t;
          celled = cell-inside cells k (omega (arith, open_is u v));
          coded = q;
          known = w;
          in-lists = l;
        }

    -- what is there is read
    pub session-there : (next k u v : ℕ) → u < 256 → v < 256 → SessionThere users listed cells next k u v → session_at users listed cells next k ≡ opened u v
    session-there next k u v a b s = session-is next k (open_cell u v) s.given s.coded ∙ in-opened u v s.known a b s.in-lists

    -- any other number than the one that is given keeps what it has
    pub session-raised : (next j : ℕ) → (j ≡ next → ⊥) → session_at users listed cells (next + 1) j ≡ session_at users listed cells next j
    unfolding session_at
    session-raised next j n = ap (λ (t : Bool). cond t (session_in users listed (get_or cells (place_of j) 0)) closed) (raised next j n)

    pub session-below : (next j : ℕ) → j < next → session_at users listed cells (next + 1) j ≡ session_at users listed cells next j
    session-below next j h = session-raised next j (λ e. omega arith)

  -- a cell is written

  pub session-opened : (cells : List ℕ) (next k u v : ℕ) → k < next → place_of k < length cells → u < users → u < 256 → v < 256 → listed v ≡ true →
      session_at users listed (set cells (place_of k) (open_cell u v)) next k ≡ opened u v
  session-opened cells next k u v h i w a b l =
      session-is (set cells (place_of k) (open_cell u v)) next k (open_cell u v) h (written cells k (open_cell u v) i) ∙ in-opened u v w a b l

  pub session-closed : (cells : List ℕ) (next k : ℕ) → session_at users listed (set cells (place_of k) closed_cell) next k ≡ closed
  unfolding session_at closed_cell
  session-closed cells next k =
      ap (λ (c : ℕ). cond (ltb k next) (session_in users listed c) closed) (cleared cells k)
      ∙ ap (λ (s : Session). cond (ltb k next) s closed) in-closed
      ∙ cond_same (ltb k next) closed

  pub session-other : (cells : List ℕ) (next j k c : ℕ) → (j ≡ k → ⊥) →
      session_at users listed (set cells (place_of k) c) next j ≡ session_at users listed cells next j
  unfolding session_at
  session-other cells next j k c n = ap (λ (c : ℕ). cond (ltb j next) (session_in users listed c) closed) (unwritten cells j k c n)

-- items

module _ (listed : ℕ → Bool) where
  in-item-reads : (c v : ℕ) → item_in listed c ≡ some v → (c ≡ item_cell v) × (listed v ≡ true)
  unfolding item_in item_cell
  in-item-reads c v e =
      let b = c % 256 in
      let (t, p) = cond-true (eqb (c / 256) 256 && listed b) (some b) none (some v) e not_none in
      let (o, l) = both_true (eqb (c / 256) 256) (listed b) t in
      let q : b ≡ v = cc in
      (omega (arith, eqb-true (c / 256) 256 o), subst (λ (z : ℕ). listed z ≡ true) q l)

  in_item : (v : ℕ) → v < 256 → listed v ≡ true → item_in listed (item_cell v) ≡ some v
  unfolding item_in item_cell
  in_item v b l =
      let c = 65536 + v in
      let e₀ : c / 256 ≡ 256 = omega arith in
      let e₁ : c % 256 ≡ v = omega arith in
      simp (e₀, e₁, l)

  module _ (cells : List ℕ) where
    -- a number that was given
    item-given : (next k c : ℕ) → k < next → get_or cells (place_of k) 0 ≡ c → item_at listed cells next k ≡ item_in listed c
    unfolding item_at
    item-given next k c h e = simp (lt-ltb k next h, e)

    -- what is there where an item is read
    pub item-reads : (next k v : ℕ) → item_at listed cells next k ≡ some v → ItemThere listed cells next k v
    unfolding item_at
    item-reads next k v e =
        let c = get_or cells (place_of k) 0 in
        let (t, p) = cond-true (ltb k next) (item_in listed c) none (some v) e not_none in
        let (q, l) = in-item-reads c v p in
        record { given = ltb-true k next t; celled = cell-inside cells k (omega (arith, item-is v)); coded = q; in-lists = l }

    -- what is there is read
    pub item-there : (next k v : ℕ) → v < 256 → ItemThere listed cells next k v → item_at listed cells next k ≡ some v
    item-there next k v b s = item-given next k (item_cell v) s.given s.coded ∙ in_item v b s.in-lists

    -- any other number than the one that is given keeps what it has
    pub item-raised : (next j : ℕ) → (j ≡ next → ⊥) → item_at listed cells (next + 1) j ≡ item_at listed cells next j
    unfolding item_at
    item-raised next j n = ap (λ (t : Bool). cond t (item_in listed (get_or cells (place_of j) 0)) none) (raised next j n)

    pub item-below : (next j : ℕ) → j < next → item_at listed cells (next + 1) j ≡ item_at listed cells next j
    item-below next j h = item-raised next j (λ e. omega arith)

  -- a cell is written

  pub item-written : (cells : List ℕ) (next k v : ℕ) → k < next → place_of k < length cells → v < 256 → listed v ≡ true →
      item_at listed (set cells (place_of k) (item_cell v)) next k ≡ some v
  item-written cells next k v h i b l =
      item-given (set cells (place_of k) (item_cell v)) next k (item_cell v) h (written cells k (item_cell v) i) ∙ in_item v b l

  pub item-other : (cells : List ℕ) (next j k c : ℕ) → (j ≡ k → ⊥) → item_at listed (set cells (place_of k) c) next j ≡ item_at listed cells next j
  unfolding item_at
  item-other cells next j k c n = ap (λ (c : ℕ). cond (ltb j next) (item_in listed c) none) (unwritten cells j k c n)

-- what the program reads of a session

pub read-closed : Path (Read OpenSession) (session_read closed) None
unfolding session_read
read-closed = refl

pub read-opened : (u v : ℕ) → Path (Read OpenSession) (session_read (opened u v)) (Some record { user = u; value = v })
unfolding session_read
read-opened u v = refl
