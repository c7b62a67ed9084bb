-- A queue whose places are worked off in order, while some value that links can lead to is not seen. In order: what is known after i places; the
-- start, a turn, the end, and two ways to start, whatever the starts and the links are; sessions, where each place is worked off by one spread.
use mathlib.Core.Path.{◌≡◌, refl}
use mathlib.Core.Bool.{Bool, true, false, ◌&&◌, cond}
use mathlib.Core.Logic.{inl, inr}
use Prim.Native.Nat.{ℕ, zero, suc, ◌+◌, ◌≤◌, ◌<◌}
use native.Mathlib.Decide.{ℕ_discrete, dec_lt}
use native.Mathlib.Omega.{arith}
use borrow.Author.Tests.{ltb-true, lt-ltb}
use lib.Dec.{ltb}
use Rattle.lanes.specs.Lanes.{lane_of, some_below}
use Rattle.verdict.proofs.Below.{both_of}
use Rattle.search.specs.Queue.{nothing, pushed, unmet, spread}
use Rattle.search.specs.Sessions.{grow_to}
use Rattle.search.specs.Searched.{value_at, Good, Searched}
use Rattle.search.specs.declared.queue.Found.{Found}
use Rattle.search.proofs.Turns.{chosen, nothing_seen, all-met, grow-none, grow-turn}
use Rattle.search.proofs.Pushing.{start, next, nothing-good}
use Rattle.search.proofs.Spreading.{Brings, brings-seen, brings-none, brings-stay, brings-push, spread-brings}

-- starts are seen, and what links lead to from the places below i
pub record Seeking (S : ℕ → ℕ → Type 0) (E : ℕ → ℕ → ℕ → Type 0) (i : ℕ) (q : Found) : Type 0 where
  pub good : Good S E q
  pub starts : (via v : ℕ) → v < 256 → S via v → lane_of q.seen v ≡ true
  pub shut : (j via v : ℕ) → j < i → j < q.len → v < 256 → E (value_at q j) via v → lane_of q.seen v ≡ true

module _ (S : ℕ → ℕ → Type 0) (E : ℕ → ℕ → ℕ → Type 0) where
  -- no place is worked off where the starts are brought in
  pub seeking-start : (p q : Found) → Brings S E p (λ v. (via : ℕ) × S via v) q → Seeking S E 0 q
  seeking-start p q b = record { good = b.good; starts = λ via v h s. b.all v h (via, s); shut = λ j via v h. absurd (omega arith) }

  -- place i is worked off where what links lead to from there is brought in; it comes after the places before it, and new ones after it
  pub seeking-more : (i : ℕ) (q r : Found) → i < q.len → Seeking S E i q → Brings S E q (λ v. (via : ℕ) × E (value_at q i) via v) r → Seeking S E (suc i) r
  seeking-more i q r h s b = record {
    good = b.good;
    starts = λ via v l t. b.grows.keeps v l (s.starts via v l t);
    shut = λ j via v k l m e. go j via v k m e (ℕ_discrete j i);
  }
    where
      go : (j via v : ℕ) → j < suc i → v < 256 → E (value_at r j) via v → Dec (j ≡ i) → lane_of r.seen v ≡ true
      go j via v k l e (yes z) = b.all v l (via, rw (z, b.grows.value i h) at e)
      go j via v k l e (no z) =
          let m : j < q.len = omega arith in
          b.grows.keeps v l (s.shut j via v (omega arith) m l (rw (b.grows.value j m) at e))

  -- there is no place i
  pub seeking-stay : (i : ℕ) (q : Found) → q.len ≤ i → Seeking S E i q → Seeking S E (suc i) q
  seeking-stay i q h s = record { good = s.good; starts = s.starts; shut = λ j via v k l m e. s.shut j via v (omega arith) l m e }

  -- there is no place after 256
  pub seeking-end : (q : Found) → Seeking S E 256 q → Searched S E q
  seeking-end q s = record { good = s.good; starts = s.starts; closed = λ i via v h l e. s.shut i via v (omega (arith, s.good.placed.few)) h l e }

  -- one turn: place i is worked off if there is one; it is worked off already where all values that links can lead to are seen
  pub seeking-turn : (within : ℕ → Bool) → ((x via v : ℕ) → E x via v → within v ≡ true) → (i : ℕ) (q r : Found) → Seeking S E i q
      → (i < q.len → Brings S E q (λ v. (via : ℕ) × E (value_at q i) via v) r) → Seeking S E (suc i) (cond (ltb i q.len && some_below (unmet within q) 256) r q)
  seeking-turn within c i q r s b =
      chosen (Seeking S E (suc i)) _ r q
      (λ e. let h = ltb-true i q.len (both_of (ltb i q.len) (some_below (unmet within q) 256) e).0 in seeking-more i q r h s (b h)) (λ e. go e (dec_lt i q.len))
    where
      go : ltb i q.len && some_below (unmet within q) 256 ≡ false → Dec (i < q.len) → Seeking S E (suc i) q
      go e (yes h) =
          let met : some_below (unmet within q) 256 ≡ false = rw (lt-ltb i q.len h) at e in
          seeking-more i q q h s (brings-seen S E q _ s.good (λ v l z. all-met within q met v l (c _ z.0 v z.1)))
      go e (no d) = seeking-stay i q (omega arith) s

  -- the starts are what a test holds of
  pub tested : (f : ℕ → Bool) → ((v : ℕ) → f v ≡ true → S 0 v) → ((via v : ℕ) → S via v → f v ≡ true) → Seeking S E 0 (spread f nothing 0 0)
  tested f s t =
      seeking-start nothing _
      (brings-stay S E nothing _ _ _ (spread-brings S E f nothing 0 0 (nothing-good S E) (λ y h e. start refl (s y e))) (λ v h z. inl (t z.0 v z.1)))

  -- there is one start
  pub single : (held via : ℕ) → held < 256 → S via held → ((w v : ℕ) → S w v → v ≡ held) → Seeking S E 0 (pushed nothing held 0 via)
  single held via h s t =
      seeking-start nothing _
      (brings-push S E nothing (λ v. ⊥) _ nothing held 0 via (brings-none S E nothing _ (nothing-good S E) (λ v z. z)) h (nothing_seen held h) (start refl s)
      (λ v l z. inr (t z.0 v z.1)))

-- links by a test, all of them the same way; `within` are the values that they can lead to
module _ (S : ℕ → ℕ → Type 0) (within : ℕ → Bool) (edge : ℕ → ℕ → Bool) (c : (x y : ℕ) → edge x y ≡ true → within y ≡ true) where
  abbrev pub Along : ℕ → ℕ → ℕ → Type 0
  Along x via y = edge x y ≡ true

  -- a place is worked off by one spread
  grow-brings : (q : Found) (i : ℕ) → Good S Along q → i < q.len → Brings S Along q (λ v. (via : ℕ) × Along (value_at q i) via v) (spread (edge (value_at q i)) q (i + 1) 0)
  grow-brings q i G h =
      brings-stay S Along q _ _ _ (spread-brings S Along (edge (value_at q i)) q (i + 1) 0 G (λ y l t. next i refl h t)) (λ v l t. inl t.1)

  pub grow-seeks : (q : Found) → Seeking S Along 0 q → (i : ℕ) → Seeking S Along i (grow_to within edge q i)
  grow-seeks q s zero = rw (grow-none within edge q) s
  grow-seeks q s (suc i) =
      let r : Seeking S Along i (grow_to within edge q i) = grow-seeks q s i in
      rw (grow-turn within edge q i)
      (seeking-turn S Along within (λ x via v e. c x v e) i (grow_to within edge q i) _ r (λ h. grow-brings (grow_to within edge q i) i r.good h))

  pub grow-searched : (q : Found) → Seeking S Along 0 q → Searched S Along (grow_to within edge q 256)
  grow-searched q s = seeking-end S Along _ (grow-seeks q s 256)
