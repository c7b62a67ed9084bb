-- Laws of searches as the program makes them. In order: choices, turns of loops; values not found yet, the
-- values of a row; from one place after another, of sessions. Not here: items (ItemLaws).
use mathlib.Core.Path.{◌≡◌, refl, sym, ap, ap₂, ◌∙◌}
use mathlib.Core.Bool.{Bool, true, false, not, ◌&&◌, cond, false≢true}
use mathlib.Core.List.{List}
use Prim.Native.Nat.{ℕ, zero, suc, ◌+◌, ◌-◌, ◌≤◌, ◌<◌}
use native.Mathlib.Numerals.{add-one}
use native.Mathlib.Omega.{arith}
use borrow.Author.Tests.{lt-ltb, le-ltb}
use lib.Dec.{ltb}
use Rattle.lanes.specs.Lanes.{lane_of, Lanes, some_below, no_lane}
use Rattle.lanes.proofs.Laws.{Rest, lowest-here, lanes-as, none-lanes}
use Rattle.runs.specs.Model.{Model}
use Rattle.runs.specs.Edge.{opens_with, changes_to, modifies_to}
use Rattle.search.specs.Queue.{nothing, pushed, unmet, spread_to, spread}
use Rattle.search.specs.Sessions.{grown_at, grow_to, sessions_found, own_found}
use Rattle.search.specs.declared.queue.Found.{Found}

-- a choice by a flag that is known
pub cond-on : (b : Bool) (p r : Found) {x : Found} → b ≡ true → x ≡ p → x ≡ cond b p r
cond-on b p r e h = h ∙ sym (ap (λ (t : Bool). cond t p r) e)

pub cond-off : (b : Bool) (p r : Found) → b ≡ false → r ≡ cond b p r
cond-off b p r e = sym (ap (λ (t : Bool). cond t p r) e)

-- a turn of a loop, where the next is made of the last behind a test
pub turn : (X : ℕ → Found) (test : Found → Bool) (go : Found → Found) (n : ℕ) → X (suc n) ≡ cond (test (X n)) (go (X n)) (X n)
    → (r : Found) (b : Bool) → r ≡ X n → test r ≡ b → cond b (go r) r ≡ X (n + 1)
turn X test go n e r b i t =
    rw add-one (sym (e ∙ sym (ap (λ (x : Found). cond (test x) (go x) x) i) ∙ ap (λ (u : Bool). cond u (go r) r) t))

-- turns that change nothing, from y to z
pub skip : (X : ℕ → Found) (y z : ℕ) → y ≤ z → ((v : ℕ) → y ≤ v → v < z → X (suc v) ≡ X v) → X y ≡ X z
skip X y z h g = let e : y + (z - y) ≡ z = omega arith in far (z - y) (omega arith) ∙ ap X e
  where
    far : (k : ℕ) → y + k ≤ z → X y ≡ X (y + k)
    far zero l = let e : y ≡ y + 0 = omega arith in ap X e
    far (suc k) l = let e : suc (y + k) ≡ y + suc k = omega arith in far k (omega arith) ∙ sym (g (y + k) (omega arith) (omega arith)) ∙ ap X e

-- the lane that is gone to is one of the set
pub rest-here : (x rest : List ℕ) (y : ℕ) → y < 256 → Rest x rest y → lane_of x y ≡ true
rest-here x rest y h R = sym (R.1 y (omega arith) h) ∙ ap (lane_of rest) R.0 ∙ lowest-here rest (omega (arith, R.0))

-- values not found yet
module _ (f : ℕ → Bool) (q : Found) where
  pub unmet-is : (n : ℕ) → unmet f q n ≡ f n && not (lane_of q.seen n)
  unfolding unmet
  unmet-is n = refl

  pub unmet-listed : (n : ℕ) → unmet f q n ≡ true → f n ≡ true
  unfolding unmet
  unmet-listed n = left (f n) (not (lane_of q.seen n))
    where
      left : (a b : Bool) → a && b ≡ true → a ≡ true
      left true b t = refl
      left false b t = absurd (false≢true t)

  module _ (within fresh : List ℕ) (W : Lanes f within) (F : Lanes (λ (v : ℕ). lane_of within v && not (lane_of q.seen v)) fresh) where
    pub unmet-lanes : Lanes (unmet f q) fresh
    unfolding unmet
    unmet-lanes = lanes-as _ _ fresh F (λ v h. ap (λ (b : Bool). b && not (lane_of q.seen v)) (W.each v h))

    pub unmet-none : no_lane fresh ≡ not (some_below (unmet f q) 256)
    unmet-none = none-lanes (unmet f q) fresh unmet-lanes

    -- some value isn't found yet, by a test of the lanes
    pub unmet-some : (b t : Bool) → b ≡ no_lane fresh → not b ≡ t → some_below (unmet f q) 256 ≡ t
    unmet-some b t e h = sym (twice (some_below (unmet f q) 256)) ∙ ap not (sym (e ∙ unmet-none)) ∙ h
      where
        twice : (s : Bool) → not (not s) ≡ s
        twice true = refl
        twice false = refl

    -- whether place i is worked off: there is one, and some value isn't found yet
    pub more-at : (i : ℕ) (b t : Bool) → i < q.len → b ≡ no_lane fresh → not b ≡ t → ltb i q.len && some_below (unmet f q) 256 ≡ t
    more-at i b t h e s = ap₂ ◌&&◌ (lt-ltb i q.len h) (unmet-some b t e s)

  pub more-end : (i : ℕ) → q.len ≤ i → ltb i q.len && some_below (unmet f q) 256 ≡ false
  more-end i h = ap (λ (b : Bool). b && some_below (unmet f q) 256) (le-ltb i q.len h)

pub unmet-ext : (f g : ℕ → Bool) (q : Found) (n : ℕ) → f n ≡ g n → unmet f q n ≡ unmet g q n
unfolding unmet
unmet-ext f g q n e = rw e refl

-- the values of a row that are new
module _ (q : Found) (from via : ℕ) where
  module _ (f : ℕ → Bool) where
    still : (v : ℕ) → unmet f q v ≡ false → spread_to f q from via (suc v) ≡ spread_to f q from via v
    unfolding spread_to
    still v e = rw e refl

    -- there is none below y
    pub spread-start : (y : ℕ) → ((v : ℕ) → v < y → unmet f q v ≡ false) → q ≡ spread_to f q from via y
    unfolding spread_to
    spread-start y h = skip (spread_to f q from via) 0 y (omega arith) (λ v l m. still v (h v m))

    -- y is one, and there is none between it and z
    pub spread-next : (y z : ℕ) (r : Found) → r ≡ spread_to f q from via y → unmet f q y ≡ true → y < z → ((v : ℕ) → y < v → v < z → unmet f q v ≡ false)
        → pushed r y from via ≡ spread_to f q from via z
    unfolding spread_to
    spread-next y z r i t l h =
        turn (spread_to f q from via) (λ x. unmet f q y) (λ x. pushed x y from via) y refl r true i t
        ∙ skip (spread_to f q from via) (y + 1) z (omega arith) (λ v a b. still v (h v (omega arith) b))

    pub spread_end : spread_to f q from via 256 ≡ spread f q from via
    unfolding spread
    spread_end = refl

  spread-ext : (f g : ℕ → Bool) (n : ℕ) → ((v : ℕ) → v < n → unmet f q v ≡ unmet g q v) → spread_to f q from via n ≡ spread_to g q from via n
  unfolding spread_to
  spread-ext f g zero h = refl
  spread-ext f g (suc n) h = rw (h n (omega arith), spread-ext f g n (λ v l. h v (omega arith))) refl

  -- a row by its lanes
  pub spread-lanes : (f : ℕ → Bool) (row : List ℕ) → Lanes f row → spread (lane_of row) q from via ≡ spread f q from via
  unfolding spread
  spread-lanes f row l = spread-ext (lane_of row) f 256 (λ v h. unmet-ext (lane_of row) f q v (l.each v h))

  -- a row that was asked of the values not found yet alone
  module _ (fresh row : List ℕ) where
    spread-fresh : (within may : ℕ → Bool) → Lanes (unmet within q) fresh → Lanes (λ (v : ℕ). lane_of fresh v && may v) row
        → spread (lane_of row) q from via ≡ spread (λ v. within v && may v) q from via
    unfolding spread unmet
    spread-fresh within may F R =
        spread-ext (lane_of row) (λ v. within v && may v) 256
        (λ v h.
        ap (λ (b : Bool). b && not (lane_of q.seen v)) (R.each v h ∙ ap (λ (b : Bool). b && may v) (F.each v h))
        ∙ again (within v) (not (lane_of q.seen v)) (may v))
      where
        again : (w n t : Bool) → ((w && n) && t) && n ≡ (w && t) && n
        again true true t = refl
        again true false true = refl
        again true false false = refl
        again false n t = refl

    pub spread-changes : (m : Model) (u x : ℕ) → Lanes (unmet m.session_value q) fresh → Lanes (λ (w : ℕ). lane_of fresh w && m.may_change u x w) row
        → spread (lane_of row) q from via ≡ spread (changes_to m u x) q from via
    unfolding changes_to
    spread-changes m u x = spread-fresh m.session_value (m.may_change u x)

    pub spread-modifies : (m : Model) (v o : ℕ) → Lanes (unmet m.item_value q) fresh → Lanes (λ (n : ℕ). lane_of fresh n && m.may_modify v o n) row
        → spread (lane_of row) q from via ≡ spread (modifies_to m v o) q from via
    unfolding modifies_to
    spread-modifies m v o = spread-fresh m.item_value (m.may_modify v o)

-- one value alone is new
pub spread-one : (f : ℕ → Bool) (q : Found) (from via y : ℕ) → y < 256 → unmet f q y ≡ true → ((v : ℕ) → v < 256 → (v ≡ y → ⊥) → unmet f q v ≡ false)
    → spread f q from via ≡ pushed q y from via
spread-one f q from via y h e o =
    sym
    (spread-next q from via f y 256 q (spread-start q from via f y (λ v l. o v (omega arith) (λ z. omega arith))) e h (λ v a b. o v b (λ z. omega arith))
    ∙ spread_end q from via f)

-- the values that a user may open a session with, asked of those in the lists
pub opens_row : (m : Model) (u : ℕ) (within row : List ℕ) → Lanes m.session_value within → Lanes (λ (v : ℕ). lane_of within v && (ltb u m.users && m.may_open u v)) row → Lanes (opens_with m u) row
unfolding opens_with
opens_row m u within row W R =
    lanes-as _ _ row R (λ v h. ap (λ (b : Bool). b && (ltb u m.users && m.may_open u v)) (W.each v h) ∙ turned (m.session_value v) (ltb u m.users) (m.may_open u v))
  where
    turned : (s t p : Bool) → s && (t && p) ≡ t && s && p
    turned true true p = refl
    turned true false p = refl
    turned false true p = refl
    turned false false p = refl

-- from one place after another, of sessions
module _ (edge : ℕ → ℕ → Bool) (q : Found) (within : ℕ → Bool) where
  pub grow-start : q ≡ grow_to within edge q 0
  unfolding grow_to
  grow-start = refl

  pub grow-turn : (i : ℕ) → grown_at within edge (grow_to within edge q i) i ≡ grow_to within edge q (i + 1)
  unfolding grow_to
  grow-turn i = ap (grow_to within edge q) (sym (add-one i))

module _ (m : Model) (u : ℕ) where
  pub sessions-are : sessions_found m u ≡ grow_to m.session_value (changes_to m u) (spread (opens_with m u) nothing 0 0) 256
  unfolding sessions_found
  sessions-are = refl

  pub own-are : (held : ℕ) → own_found m u held ≡ grow_to m.session_value (changes_to m u) (pushed nothing held 0 0) 256
  unfolding own_found
  own-are held = refl
