-- Searches of items by one session value of each kind are the same. In order: a part that has one of each kind; rows and choices that add nothing;
-- one place; all places; one item and any item.
use mathlib.Core.Path.{◌≡◌, refl, sym, ap, ◌∙◌}
use mathlib.Core.Bool.{Bool, true, false, not, ◌&&◌, cond, false≢true}
use mathlib.Core.List.{List}
use Prim.Native.Nat.{ℕ, zero, suc, ◌+◌, ◌-◌, ◌≤◌, ◌<◌}
use native.Mathlib.Decide.{ℕ_discrete}
use native.Mathlib.Omega.{arith}
use borrow.Author.Tests.{ltb-true}
use lib.Dec.{ltb}
use lib.ListN.{length, get_or}
use Rattle.lanes.specs.Lanes.{lane_of, some_below}
use Rattle.runs.specs.Model.{Model}
use Rattle.runs.specs.Edge.{modifies_to}
use Rattle.verdict.proofs.Below.{not-both}
use Rattle.search.specs.Queue.{nothing, pushed, unmet, spread}
use Rattle.search.specs.Items.{asked, offered_by, offered, items_at, grow_items, ready_of, one_found, start_roots, any_found}
use Rattle.search.specs.Searched.{value_at, Good}
use Rattle.search.specs.Claims.{Modify, Begun}
use Rattle.search.specs.declared.queue.Found.{Found}
use Rattle.search.proofs.Laws.{unmet-is, spread-start, spread_end}
use Rattle.search.proofs.Turns.{offered-none, offered-turn, grow-items-none, grow-items-turn, one-is, any-is}
use Rattle.search.proofs.Spreading.{Brings}
use Rattle.search.proofs.Growing.{Seeking, single}
use Rattle.search.proofs.ItemGrowing.{By, offered-brings, grow-items-seeks, begun}

-- few has some of the values of ready, and for each of them the same or a later one that may change items alike
pub record Fewer (m : Model) (few ready : ℕ → Bool) : Type 0 where
  pub inside : (v : ℕ) → v < 256 → few v ≡ true → ready v ≡ true
  pub later : (w : ℕ) → w < 256 → ready w ≡ true → (v : ℕ) × (v < 256) × (w ≤ v) × (few v ≡ true) × ((o n : ℕ) → modifies_to m v o n ≡ modifies_to m w o n)

-- a row whose values are all seen adds nothing
spread-known : (f : ℕ → Bool) (q : Found) (from via : ℕ) → ((n : ℕ) → n < 256 → f n ≡ true → lane_of q.seen n ≡ true) → spread f q from via ≡ q
spread-known f q from via h = sym (spread-start q from via f 256 (λ n l. unmet-is f q n ∙ go n l (f n) refl) ∙ spread_end q from via f)
  where
    go : (n : ℕ) → n < 256 → (b : Bool) → f n ≡ b → b && not (lane_of q.seen n) ≡ false
    go n l true e = rw (h n l e) refl
    go n l false e = refl

-- a choice by a stronger test, where the choice changes nothing if only the weaker one holds
choice-same : (c d s : Bool) (x r : Found) → (c ≡ true → d ≡ true) → (c ≡ false → d ≡ true → x ≡ r) → cond (c && s) x r ≡ cond (d && s) x r
choice-same true true s x r f g = refl
choice-same true false s x r f g = absurd (false≢true (f refl))
choice-same false true true x r f g = sym (g refl refl)
choice-same false true false x r f g = refl
choice-same false false s x r f g = refl

module _ (m : Model) (helper few : ℕ → Bool) (F : Fewer m few (ready_of m helper)) (S : ℕ → ℕ → Type 0) where
  abbrev ready : ℕ → Bool
  ready = ready_of m helper

  -- one place
  module _ (q : Found) (i : ℕ) (G : Good S (Modify m helper) q) (h : i < q.len) where
    abbrev Offered : ℕ → Found → Type 0
    Offered k = Brings S (Modify m helper) q (By m helper few F.inside S (value_at q i) k)

    -- what a session value leads to that few lacks, was brought in by a later one
    known : (k : ℕ) (r : Found) → k < 256 → Offered k r → few (255 - k) ≡ false → ready (255 - k) ≡ true
        → spread (modifies_to m (255 - k) (value_at q i)) r (i + 1) (255 - k) ≡ r
    known k r l b off on =
        let (w, a, le, t, e) = F.later (255 - k) (omega arith) on in
        spread-known (modifies_to m (255 - k) (value_at q i)) r (i + 1) (255 - k)
        (λ n c z. b.all n c (w, a, past w le t (ℕ_discrete w (255 - k)), t, e (value_at q i) n ∙ z))
      where
        past : (w : ℕ) → 255 - k ≤ w → few w ≡ true → Dec (w ≡ 255 - k) → 256 ≤ w + k
        past w le t (yes e) = not-both off (rw e at t)
        past w le t (no d) = omega arith

    turn-same : (k : ℕ) (r : Found) → k < 256 → Offered k r → offered_by m few (value_at q i) r i k ≡ offered_by m ready (value_at q i) r i k
    turn-same k r l b = choice-same (few (255 - k)) (ready (255 - k)) _ _ r (F.inside (255 - k) (omega arith)) (known k r l b)

    offered-same : (k : ℕ) → k ≤ 256 → offered m few q i k ≡ offered m ready q i k
    offered-same zero l = offered-none m few q i ∙ sym (offered-none m ready q i)
    offered-same (suc k) l =
        offered-turn m few q i k
        ∙ turn-same k (offered m few q i k) (omega arith) (offered-brings m helper few F.inside S q i G h k (omega arith))
        ∙ ap (λ (r : Found). offered_by m ready (value_at q i) r i k) (offered-same k (omega arith))
        ∙ sym (offered-turn m ready q i k)

  place_same : (q : Found) (i : ℕ) → Good S (Modify m helper) q → items_at m few q i ≡ items_at m ready q i
  place_same q i G = go (ltb i q.len) (some_below (unmet m.item_value q) 256) refl
    where
      go : (b s : Bool) → ltb i q.len ≡ b → cond (b && s) (offered m few q i 256) q ≡ cond (b && s) (offered m ready q i 256) q
      go true s e = ap (λ (r : Found). cond s r q) (offered-same q i G (ltb-true i q.len e) 256 (omega arith))
      go false s e = refl

  -- all places
  items-same : (q : Found) → Seeking S (Modify m helper) 0 q → (i : ℕ) → grow_items m few q i ≡ grow_items m ready q i
  items-same q s zero = grow-items-none m few q ∙ sym (grow-items-none m ready q)
  items-same q s (suc i) =
      grow-items-turn m few q i
      ∙ ap (λ (r : Found). items_at m few r i) (items-same q s i)
      ∙ place_same (grow_items m ready q i) i (grow-items-seeks m helper S q s i).good
      ∙ sym (grow-items-turn m ready q i)

module _ (m : Model) (helper few : ℕ → Bool) (F : Fewer m few (ready_of m helper)) where
  -- one item
  pub one_fewer : (j held : ℕ) → held < 256 → j < 256 → grow_items m few (pushed nothing held 0 (256 + j)) 256 ≡ one_found m helper j held
  one_fewer j held h l =
      items-same m helper few F (λ via o. (via ≡ 256 + j) × (o ≡ held)) _ (single _ _ held (256 + j) h (refl, refl) (λ w v e. e.1)) 256 ∙ sym (one-is m helper j held)

  -- any item
  pub any-fewer : (values : List ℕ) → ((j : ℕ) → j < length values → get_or values j 0 < 256)
      → grow_items m few (asked m (ready_of m helper) (start_roots values nothing (length values)) 256) 256 ≡ any_found m helper values
  any-fewer values byte = items-same m helper few F (Begun m helper values) _ (begun m helper values byte _) 256 ∙ sym (any-is m helper values)
