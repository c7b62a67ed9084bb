-- Laws of the queue, for this crate and those above; the only file that opens its definitions.
-- In order: choices; counts; nothing found; a push; what is not found yet; a turn of each loop.
use mathlib.Core.Path.{◌≡◌, refl, sym, ap, ◌∙◌}
use mathlib.Core.Bool.{Bool, true, false, not, ◌&&◌, ◌||◌, cond, or-false}
use mathlib.Core.List.{List}
use mathlib.Core.Logic.{◌↔◌}
use Prim.Native.Nat.{ℕ, zero, suc, ◌+◌, ◌-◌, ◌/◌, ◌%◌, ◌<◌}
use native.Mathlib.Decide.{ℕ_discrete}
use native.Mathlib.Omega.{arith}
use borrow.Author.Tests.{eq-eqb, lt-leb, ne_eqb, not-true, not-false}
use lib.Dec.{ltb, leb, eqb}
use lib.ListN.{length, get_or, length-set, get_or-replicate}
use lib.Seq.{get_or-set_same, get_or-set_other}
use Rattle.lanes.specs.Lanes.{lane_of, bit_of, some_below, last_below, count_below}
use Rattle.lanes.proofs.Laws.{some-none}
use Rattle.lanes.proofs.Counts.{count-below-le, count-ext}
use Rattle.lanes.proofs.Bits.{bit-zero}
use Rattle.lanes.proofs.Words.{lanes-added}
use Rattle.runs.specs.Model.{Model}
use Rattle.runs.specs.Edge.{opens_with, changes_to, makes_with}
use Rattle.verdict.proofs.Below.{both, both_of}
use Rattle.search.specs.Queue.{nothing, depth_after, pushed, unmet, spread_to, spread}
use Rattle.search.specs.Sessions.{grown_at, grow_to, sessions_found, own_found}
use Rattle.search.specs.Items.{last_maker, asked, offered_by, offered, items_at, grow_items, ready_of, one_found, start_roots, any_found}
use Rattle.search.specs.Searched.{value_at, from_at, via_at, depth_at, place_at, Sized}
use Rattle.search.specs.declared.queue.Found.{Found}

-- what holds of both ways holds of the choice
pub chosen : {A : Type 0} (P : A → Type 0) (b : Bool) (x y : A) → (b ≡ true → P x) → (b ≡ false → P y) → P (cond b x y)
chosen P true x y f g = f refl
chosen P false x y f g = g refl

-- a test that fails for one number below n holds of less than n
pub count-lack : (f : ℕ → Bool) (y n : ℕ) → y < n → f y ≡ false → count_below f n < n
unfolding count_below
count-lack f y zero h e = absurd (omega arith)
count-lack f y (suc n) h e = go (ℕ_discrete y n) (f n) refl (λ l. count-lack f y n l e)
  where
    go : Dec (y ≡ n) → (b : Bool) → f n ≡ b → (y < n → count_below f n < n) → count_below f n + cond b 1 0 < suc n
    go (yes z) true w r = let k : ◌≡◌ {A = Bool} true false = sym w ∙ ap f (sym z) ∙ e in absurd (let z : ◌≡◌ {A = ℕ} 0 1 = cc in omega arith)
    go (yes z) false w r = omega (arith, count-below-le f n)
    go (no z) true w r = omega (arith, r (omega arith))
    go (no z) false w r = omega (arith, r (omega arith))

-- one number more is one more
pub count-more : (f g : ℕ → Bool) (y n : ℕ) → y < n → f y ≡ false → ((i : ℕ) → i < n → g i ≡ f i || eqb i y) → count_below g n ≡ count_below f n + 1
unfolding count_below
count-more f g y zero h e s = absurd (omega arith)
count-more f g y (suc n) h e s = go (ℕ_discrete y n) (λ l. count-more f g y n l e (λ i k. s i (omega arith)))
  where
    same : (i : ℕ) → i < suc n → (i ≡ y → ⊥) → g i ≡ f i
    same i l d = s i l ∙ rw (ne_eqb i y d) (or-false (f i))

    go : Dec (y ≡ n) → (y < n → count_below g n ≡ count_below f n + 1) → count_below g n + cond (g n) 1 0 ≡ count_below f n + cond (f n) 1 0 + 1
    go (yes z) r =
        let a : f n ≡ false = ap f (sym z) ∙ e in
        let b : g n ≡ true = s n (omega arith) ∙ rw (a, eq-eqb n y (sym z)) refl in
        rw (a, b, count-ext g f n (λ i l. same i (omega arith) (λ w. omega arith))) (omega arith)
    go (no z) r = rw (same n (omega arith) (λ w. z (sym w)), r (omega arith)) (omega arith)

-- a test that fails for every number holds of none
pub count_none : (f : ℕ → Bool) (n : ℕ) → ((i : ℕ) → i < n → f i ≡ false) → count_below f n ≡ 0
unfolding count_below
count_none f zero h = refl
count_none f (suc n) h = rw (h n (omega arith), count_none f n (λ i l. h i (omega arith))) refl

pub nothing-len : nothing.len ≡ 0
unfolding nothing
nothing-len = refl

pub nothing-sized : Sized nothing
unfolding nothing
nothing-sized = record { seen = refl; order = refl; from = refl; via = refl; depth = refl; place = refl }

pub nothing-place : (v : ℕ) → v < 256 → place_at nothing v ≡ 0
unfolding nothing
nothing-place v h = get_or-replicate 256 v 0 0 (omega arith)

pub nothing_seen : (v : ℕ) → v < 256 → lane_of nothing.seen v ≡ false
unfolding nothing lane_of
nothing_seen v h = ap (λ (z : ℕ). bit_of z (v % 64)) (get_or-replicate 4 (v / 64) 0 0 (omega arith)) ∙ bit-zero (v % 64)

-- r is q with y at the end
pub record Push (q : Found) (y from via : ℕ) (r : Found) : Type 0 where
  pub sized : Sized r
  pub longer : r.len ≡ q.len + 1
  pub value : value_at r q.len ≡ y
  pub parent : from_at r q.len ≡ from
  pub way : via_at r q.len ≡ via
  pub depth : depth_at r q.len ≡ depth_after q.depth from
  pub place : place_at r y ≡ q.len + 1
  pub value-kept : (i : ℕ) → i < q.len → value_at r i ≡ value_at q i
  pub parent-kept : (i : ℕ) → i < q.len → from_at r i ≡ from_at q i
  pub way-kept : (i : ℕ) → i < q.len → via_at r i ≡ via_at q i
  pub depth-kept : (i : ℕ) → i < q.len → depth_at r i ≡ depth_at q i
  pub place_kept : (v : ℕ) → (v ≡ y → ⊥) → place_at r v ≡ place_at q v
  pub lanes : (v : ℕ) → v < 256 → lane_of r.seen v ≡ lane_of q.seen v || eqb v y

pub push-is : (q : Found) (y from via : ℕ) → Sized q → q.len < 256 → y < 256 → Push q y from via (pushed q y from via)
unfolding pushed
push-is q y from via s l h =
    let room : leb 256 q.len ≡ false = lt-leb 256 q.len l in
    rw room (record {
      sized = record {
        seen = (lanes-added q.seen y s.seen h).long;
        order = length-set q.order q.len y ∙ s.order;
        from = length-set q.from q.len from ∙ s.from;
        via = length-set q.via q.len via ∙ s.via;
        depth = length-set q.depth q.len (depth_after q.depth from) ∙ s.depth;
        place = length-set q.place y (q.len + 1) ∙ s.place;
      };
      longer = refl;
      value = get_or-set_same q.order q.len y 0 (omega (arith, s.order));
      parent = get_or-set_same q.from q.len from 0 (omega (arith, s.from));
      way = get_or-set_same q.via q.len via 0 (omega (arith, s.via));
      depth = get_or-set_same q.depth q.len (depth_after q.depth from) 0 (omega (arith, s.depth));
      place = get_or-set_same q.place y (q.len + 1) 0 (omega (arith, s.place));
      value-kept = λ i k. get_or-set_other q.order q.len i y 0 (λ z. omega arith);
      parent-kept = λ i k. get_or-set_other q.from q.len i from 0 (λ z. omega arith);
      way-kept = λ i k. get_or-set_other q.via q.len i via 0 (λ z. omega arith);
      depth-kept = λ i k. get_or-set_other q.depth q.len i (depth_after q.depth from) 0 (λ z. omega arith);
      place_kept = λ v d. get_or-set_other q.place y v (q.len + 1) 0 d;
      lanes = λ v k. (lanes-added q.seen y s.seen h).each v k;
    })

-- a start has no link before it
pub depth-start : (q : Found) → depth_after q.depth 0 ≡ 0
unfolding depth_after
depth-start q = refl

-- what is found from place j has one more than j
pub depth-link : (q : Found) (j : ℕ) → j < 256 → depth_at q j < 256 → depth_after q.depth (j + 1) ≡ depth_at q j + 1
unfolding depth_after
depth-link q j h d =
    let a : eqb (j + 1) 0 ≡ false = ne_eqb (j + 1) 0 (λ z. omega arith) in
    let b : j + 1 - 1 ≡ j = omega arith in
    let c : leb 256 j ≡ false = lt-leb 256 j h in
    rw (a, b, c) (omega arith)

module _ (within : ℕ → Bool) (q : Found) where
  -- n is asked for and not seen
  pub unmet-new : (n : ℕ) → unmet within q n ≡ true → (within n ≡ true) × (lane_of q.seen n ≡ false)
  unfolding unmet
  unmet-new n e =
      let (a, b) = both_of (within n) (not (lane_of q.seen n)) e in
      (a, not-true (lane_of q.seen n) b)

  -- or it is seen, if it is asked for
  pub unmet-known : (n : ℕ) → unmet within q n ≡ false → within n ≡ true → lane_of q.seen n ≡ true
  unfolding unmet
  unmet-known n e t = not-false (lane_of q.seen n) (rw t at e)

  -- where nothing is unmet, everything that is asked for is seen
  pub all-met : some_below (unmet within q) 256 ≡ false → (n : ℕ) → n < 256 → within n ≡ true → lane_of q.seen n ≡ true
  all-met e n h t = unmet-known n (some-none (unmet within q) 256 e n h) t

module _ (f : ℕ → Bool) (q : Found) (from via : ℕ) where
  pub spread_none : spread_to f q from via 0 ≡ q
  unfolding spread_to
  spread_none = refl

  pub spread-turn : (n : ℕ) → spread_to f q from via (suc n) ≡ cond (unmet f q n) (pushed (spread_to f q from via n) n from via) (spread_to f q from via n)
  unfolding spread_to
  spread-turn n = refl

  pub spread-is : spread f q from via ≡ spread_to f q from via 256
  unfolding spread
  spread-is = refl

module _ (within : ℕ → Bool) (edge : ℕ → ℕ → Bool) (q : Found) where
  pub grow-none : grow_to within edge q 0 ≡ q
  unfolding grow_to
  grow-none = refl

  pub grow-turn : (i : ℕ) → grow_to within edge q (suc i) ≡ grown_at within edge (grow_to within edge q i) i
  unfolding grow_to
  grow-turn i = refl

pub sessions-is : (m : Model) (u : ℕ) → sessions_found m u ≡ grow_to m.session_value (changes_to m u) (spread (opens_with m u) nothing 0 0) 256
unfolding sessions_found
sessions-is m u = refl

pub own_is : (m : Model) (u held : ℕ) → own_found m u held ≡ grow_to m.session_value (changes_to m u) (pushed nothing held 0 0) 256
unfolding own_found
own_is m u held = refl

pub ready-is : (m : Model) (helper : ℕ → Bool) (v : ℕ) → (ready_of m helper v ≡ true) ↔ ((helper v ≡ true) × (m.session_value v ≡ true))
unfolding ready_of
ready-is m helper v = (both_of (helper v) (m.session_value v), λ h. both (helper v) (m.session_value v) h.0 h.1)

pub ready-ext : (m : Model) (f g : ℕ → Bool) (v : ℕ) → f v ≡ g v → ready_of m f v ≡ ready_of m g v
unfolding ready_of
ready-ext m f g v e = ap (λ (b : Bool). b && m.session_value v) e

module _ (m : Model) (ready : ℕ → Bool) where
  pub last-maker-is : (n : ℕ) → last_maker m ready n ≡ last_below (λ v. ready v && (m.session_value v && makes_with m v n)) 256
  unfolding last_maker
  last-maker-is n = refl

  pub asked-none : (q : Found) → asked m ready q 0 ≡ q
  unfolding asked
  asked-none q = refl

  pub asked-turn : (q : Found) (n : ℕ) → asked m ready q (suc n)
      ≡ cond (unmet m.item_value q n && ltb (last_maker m ready n) 256) (pushed (asked m ready q n) n 0 (last_maker m ready n)) (asked m ready q n)
  unfolding asked
  asked-turn q n = refl

  pub offered-none : (q : Found) (i : ℕ) → offered m ready q i 0 ≡ q
  unfolding offered
  offered-none q i = refl

  pub offered-turn : (q : Found) (i k : ℕ) → offered m ready q i (suc k) ≡ offered_by m ready (value_at q i) (offered m ready q i k) i k
  unfolding offered
  offered-turn q i k = refl

  pub grow-items-none : (q : Found) → grow_items m ready q 0 ≡ q
  unfolding grow_items
  grow-items-none q = refl

  pub grow-items-turn : (q : Found) (i : ℕ) → grow_items m ready q (suc i) ≡ items_at m ready (grow_items m ready q i) i
  unfolding grow_items
  grow-items-turn q i = refl

module _ (m : Model) (helper : ℕ → Bool) where
  pub one-is : (j held : ℕ) → one_found m helper j held ≡ grow_items m (ready_of m helper) (pushed nothing held 0 (256 + j)) 256
  unfolding one_found
  one-is j held = refl

  pub any-is : (values : List ℕ) → any_found m helper values
      ≡ grow_items m (ready_of m helper) (asked m (ready_of m helper) (start_roots values nothing (length values)) 256) 256
  unfolding any_found
  any-is values = refl

module _ (values : List ℕ) (q : Found) where
  pub start_none : start_roots values q 0 ≡ q
  unfolding start_roots
  start_none = refl

  pub start-turn : (j : ℕ) → start_roots values q (suc j)
      ≡ cond (not (lane_of (start_roots values q j).seen (get_or values j 0))) (pushed (start_roots values q j) (get_or values j 0) 0 (256 + j)) (start_roots values q j)
  unfolding start_roots
  start-turn j = refl
