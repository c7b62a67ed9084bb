-- A queue that brings in all of what is asked for, whatever the starts and the links are. In order: what it is to bring in; all seen, nothing asked,
-- nothing done, a push, one after the other; one number after another; a spread brings in what its test holds of.
use mathlib.Core.Path.{◌≡◌, refl, ◌∙◌}
use mathlib.Core.Bool.{Bool, true, false, cond}
use mathlib.Core.Logic.{◌⊎◌, inl, inr}
use Prim.Native.Nat.{ℕ, zero, suc, ◌≤◌, ◌<◌}
use native.Mathlib.Decide.{ℕ_discrete}
use native.Mathlib.Omega.{arith}
use Rattle.lanes.specs.Lanes.{lane_of}
use Rattle.search.specs.Queue.{pushed, unmet, spread_to, spread}
use Rattle.search.specs.Searched.{Good}
use Rattle.search.specs.declared.queue.Found.{Found}
use Rattle.search.proofs.Turns.{chosen, Push, unmet-new, unmet-known, spread_none, spread-turn, spread-is}
use Rattle.search.proofs.Pushing.{Grows, grows-refl, grows-trans, push-lane, push-other, push-grows, Comes, comes-grows, pushes, push-good}

-- r is good, has what q has, and every byte that P holds of
pub record Brings (S : ℕ → ℕ → Type 0) (E : ℕ → ℕ → ℕ → Type 0) (q : Found) (P : ℕ → Type 0) (r : Found) : Type 0 where
  pub good : Good S E r
  pub grows : Grows q r
  pub all : (v : ℕ) → v < 256 → P v → lane_of r.seen v ≡ true

module _ (S : ℕ → ℕ → Type 0) (E : ℕ → ℕ → ℕ → Type 0) where
  -- q itself, where what is asked for is seen
  pub brings-seen : (q : Found) (P : ℕ → Type 0) → Good S E q → ((v : ℕ) → v < 256 → P v → lane_of q.seen v ≡ true) → Brings S E q P q
  brings-seen q P G w = record { good = G; grows = grows-refl q; all = w }

  -- and where nothing is asked for
  pub brings-none : (q : Found) (P : ℕ → Type 0) → Good S E q → ((v : ℕ) → P v → ⊥) → Brings S E q P q
  brings-none q P G n = brings-seen q P G (λ v h t. absurd (n v t))

  -- nothing is done, where what else is asked for is seen
  pub brings-stay : (q : Found) (P Q : ℕ → Type 0) (r : Found) → Brings S E q P r → ((v : ℕ) → v < 256 → Q v → P v ⊎ (lane_of r.seen v ≡ true)) → Brings S E q Q r
  brings-stay q P Q r b w = record { good = b.good; grows = b.grows; all = λ v h t. go v h (w v h t) }
    where
      go : (v : ℕ) → v < 256 → P v ⊎ (lane_of r.seen v ≡ true) → lane_of r.seen v ≡ true
      go v h (inl p) = b.all v h p
      go v h (inr e) = e

  -- y is pushed, where nothing else is asked for
  pub brings-push : (q : Found) (P Q : ℕ → Type 0) (r : Found) (y from via : ℕ) → Brings S E q P r → y < 256 → lane_of r.seen y ≡ false → Comes S E q from via y
      → ((v : ℕ) → v < 256 → Q v → P v ⊎ (v ≡ y)) → Brings S E q Q (pushed r y from via)
  brings-push q P Q r y from via b l new c w =
      let d : Comes S E r from via y = comes-grows S E q r from via y b.grows c in
      let p : Push r y from via (pushed r y from via) = pushes S E r b.good y from via l new d in
      record {
        good = push-good S E r b.good y from via l new d;
        grows = grows-trans q r _ b.grows (push-grows r y from via _ p);
        all = λ v h t. go p v h (w v h t);
      }
    where
      go : Push r y from via (pushed r y from via) → (v : ℕ) → v < 256 → P v ⊎ (v ≡ y) → lane_of (pushed r y from via).seen v ≡ true
      go p v h (inl t) = (push-grows r y from via (pushed r y from via) p).keeps v h (b.all v h t)
      go p v h (inr e) = rw e (push-lane r y from via (pushed r y from via) p l)

  -- one after the other
  pub brings-then : (q : Found) (P : ℕ → Type 0) (r : Found) (Q : ℕ → Type 0) (s : Found) (R : ℕ → Type 0) → Brings S E q P r → Brings S E r Q s
      → ((v : ℕ) → v < 256 → R v → P v ⊎ Q v) → Brings S E q R s
  brings-then q P r Q s R a b w = record { good = b.good; grows = grows-trans q r s a.grows b.grows; all = λ v h t. go v h (w v h t) }
    where
      go : (v : ℕ) → v < 256 → P v ⊎ Q v → lane_of s.seen v ≡ true
      go v h (inl p) = b.grows.keeps v h (a.all v h p)
      go v h (inr p) = b.all v h p

-- after the numbers below n: from n on nothing is new
record Spreading (S : ℕ → ℕ → Type 0) (E : ℕ → ℕ → ℕ → Type 0) (P : ℕ → Type 0) (q : Found) (n : ℕ) (r : Found) : Type 0 where
  brings : Brings S E q (λ v. (v < n) × P v) r
  rest : (v : ℕ) → v < 256 → n ≤ v → lane_of r.seen v ≡ lane_of q.seen v

-- one number after another is pushed, each by its own link, if it passes a test; what passes is new and comes to q, what doesn't pass is seen if it is asked for
module _ (S : ℕ → ℕ → Type 0) (E : ℕ → ℕ → ℕ → Type 0) (P : ℕ → Type 0) (q : Found) (from : ℕ) (by : ℕ → ℕ) (test : ℕ → Bool) (G : Good S E q)
    (new : (n : ℕ) → n < 256 → test n ≡ true → (lane_of q.seen n ≡ false) × Comes S E q from (by n) n)
    (old : (n : ℕ) → n < 256 → test n ≡ false → P n → lane_of q.seen n ≡ true) where
  taken : (n : ℕ) (r : Found) → n < 256 → Spreading S E P q n r → test n ≡ true → Spreading S E P q (suc n) (pushed r n from (by n))
  taken n r h s e =
      let (a, c) = new n h e in
      let b : lane_of r.seen n ≡ false = s.rest n h (omega arith) ∙ a in
      let d : Comes S E r from (by n) n = comes-grows S E q r from (by n) n s.brings.grows c in
      let p : Push r n from (by n) (pushed r n from (by n)) = pushes S E r s.brings.good n from (by n) h b d in
      record {
        brings = brings-push S E q _ _ r n from (by n) s.brings h b c (λ v l z. below v z.0 z.1 (ℕ_discrete v n));
        rest = λ v l z. push-other r n from (by n) _ p v l (λ w. omega arith) ∙ s.rest v l (omega arith);
      }
    where
      below : (v : ℕ) → v < suc n → P v → Dec (v ≡ n) → ((v < n) × P v) ⊎ (v ≡ n)
      below v l t (yes z) = inr z
      below v l t (no z) = inl (omega arith, t)

  left : (n : ℕ) (r : Found) → n < 256 → Spreading S E P q n r → test n ≡ false → Spreading S E P q (suc n) r
  left n r h s e = record {
    brings = brings-stay S E q _ _ r s.brings (λ v l z. below v l z.0 z.1 (ℕ_discrete v n));
    rest = λ v l z. s.rest v l (omega arith);
  }
    where
      below : (v : ℕ) → v < 256 → v < suc n → P v → Dec (v ≡ n) → ((v < n) × P v) ⊎ (lane_of r.seen v ≡ true)
      below v k l t (yes z) = inr (s.brings.grows.keeps v k (rw z (old n h e (rw z at t))))
      below v k l t (no z) = inl (omega arith, t)

  module _ (X : ℕ → Found) (none : X 0 ≡ q) (turn : (n : ℕ) → X (suc n) ≡ cond (test n) (pushed (X n) n from (by n)) (X n)) where
    each_to : (n : ℕ) → n ≤ 256 → Spreading S E P q n (X n)
    each_to zero h = rw none (record {
      brings = brings-none S E q _ G (λ v t. omega (arith, t.0));
      rest = λ v l z. refl;
    })
    each_to (suc n) h =
        let s : Spreading S E P q n (X n) = each_to n (omega arith) in
        rw (turn n) (chosen (Spreading S E P q (suc n)) _ _ _ (λ e. taken n _ (omega arith) s e) (λ e. left n _ (omega arith) s e))

    pub each-brings : Brings S E q P (X 256)
    each-brings = brings-stay S E q _ _ _ (each_to 256 (omega arith)).brings (λ v h t. inl (h, t))

-- a spread brings in what its test holds of
pub spread-brings : (S : ℕ → ℕ → Type 0) (E : ℕ → ℕ → ℕ → Type 0) (f : ℕ → Bool) (q : Found) (from via : ℕ) → Good S E q
    → ((y : ℕ) → y < 256 → f y ≡ true → Comes S E q from via y) → Brings S E q (λ v. f v ≡ true) (spread f q from via)
spread-brings S E f q from via G c =
    rw (spread-is f q from via)
    (each-brings S E (λ v. f v ≡ true) q from (λ n. via) (unmet f q) G (λ n h e. let (t, a) = unmet-new f q n e in (a, c n h t)) (λ n h e t. unmet-known f q n e t)
    (spread_to f q from via) (spread_none f q from via) (spread-turn f q from via))
