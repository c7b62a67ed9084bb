-- What is counted, by lists without repeats. In order: counts of nothing, of one more, of either of two things, of pairs; the numbers
-- below n that pass a test; pairs of a number and one that passes its test; the two counts.
use mathlib.Core.Path.{◌≡◌, refl, sym, ap, ◌∙◌, subst}
use mathlib.Core.Bool.{Bool, true, false, cond}
use mathlib.Core.Logic.Iff
use mathlib.Core.Logic.{◌⊎◌, inl, inr, ◌↔◌}
use mathlib.Core.List.{List, [], ◌∷◌, ◌++◌, map}
use Prim.Native.Nat.{ℕ, zero, suc, ◌+◌, ◌<◌}
use native.Mathlib.Decide.{ℕ_discrete}
use native.Mathlib.Omega.{arith}
use lib.ListN.{length-append, length-map}
use Rattle.lanes.specs.Lanes.{count_below}
use Rattle.runs.specs.Model.{Model}
use Rattle.runs.specs.State.{State}
use Rattle.runs.specs.Grant.{Which}
use Rattle.runs.specs.Reach.{Reach, Brought, AskedWhich, WhichReach}
use Rattle.runs.specs.Outcome.{SessionStands, ItemStands, Below}
use Rattle.runs.proofs.Theorems.{counts-are-exact}
use Rattle.verdict.specs.Closure.{in_table}
use Rattle.verdict.specs.Verdict.{reached, pairs, which_can, values}
use Rattle.verdict.specs.Meaning.{In, NoRepeats, Counts}
use Rattle.verdict.proofs.Below.{not-both}
use Rattle.verdict.proofs.Decided.{reach-below, reached-is, which-below, which_can-is}

module _ {A : Type 0} where
  -- the same count of the same things
  pub counts-as : (P Q : A → Type 0) (a : ℕ) → ((x : A) → P x ↔ Q x) → Counts P a → Counts Q a
  counts-as P Q a e c = record { list = c.list; once = c.once; exactly = λ x. Iff.trans (c.exactly x) (e x); long = c.long }

  counts-none : (P : A → Type 0) → ((x : A) → P x → ⊥) → Counts P 0
  counts-none P h = record { list = []; once = tt; exactly = λ x. (λ i. absurd i, λ p. h x p); long = refl }

  -- one more, that was not counted
  counts-more : (P : A → Type 0) (a : ℕ) (x : A) → (P x → ⊥) → Counts P a → Counts (λ y. (y ≡ x) ⊎ P y) (suc a)
  counts-more P a x h c = record {
    list = x ∷ c.list;
    once = (λ i. h ((c.exactly x).0 i), c.once);
    exactly = λ y. (to y, back y);
    long = ap suc c.long;
  }
    where
      to : (y : A) → In y (x ∷ c.list) → (y ≡ x) ⊎ P y
      to y (inl e) = inl e
      to y (inr i) = inr ((c.exactly y).0 i)

      back : (y : A) → (y ≡ x) ⊎ P y → In y (x ∷ c.list)
      back y (inl e) = inl e
      back y (inr p) = inr ((c.exactly y).1 p)

  in-append : (l r : List A) (x : A) → In x l ⊎ In x r → In x (l ++ r)
  in-append [] r x (inl i) = absurd i
  in-append [] r x (inr i) = i
  in-append (y ∷ l) r x (inl (inl e)) = inl e
  in-append (y ∷ l) r x (inl (inr i)) = inr (in-append l r x (inl i))
  in-append (y ∷ l) r x (inr i) = inr (in-append l r x (inr i))

  in_either : (l r : List A) (x : A) → In x (l ++ r) → In x l ⊎ In x r
  in_either [] r x i = inr i
  in_either (y ∷ l) r x (inl e) = inl (inl e)
  in_either (y ∷ l) r x (inr i) = go (in_either l r x i)
    where
      go : In x l ⊎ In x r → In x (y ∷ l) ⊎ In x r
      go (inl j) = inl (inr j)
      go (inr j) = inr j

  once-append : (l r : List A) → NoRepeats l → NoRepeats r → ((x : A) → In x l → In x r → ⊥) → NoRepeats (l ++ r)
  once-append [] r p q h = q
  once-append (y ∷ l) r p q h = (λ i. go (in_either l r y i), once-append l r p.1 q (λ x i j. h x (inr i) j))
    where
      go : In y l ⊎ In y r → ⊥
      go (inl i) = p.0 i
      go (inr j) = h y (inl refl) j

  -- either of two things that are never both
  counts-either : (P Q : A → Type 0) (a b : ℕ) → ((x : A) → P x → Q x → ⊥) → Counts P a → Counts Q b → Counts (λ x. P x ⊎ Q x) (a + b)
  counts-either P Q a b h c d = record {
    list = c.list ++ d.list;
    once = once-append c.list d.list c.once d.once (λ x i j. h x ((c.exactly x).0 i) ((d.exactly x).0 j));
    exactly = λ x. (λ i. to x (in_either c.list d.list x i), λ p. in-append c.list d.list x (back x p));
    long = rw (length-append, c.long, d.long) refl;
  }
    where
      to : (x : A) → In x c.list ⊎ In x d.list → P x ⊎ Q x
      to x (inl i) = inl ((c.exactly x).0 i)
      to x (inr j) = inr ((d.exactly x).0 j)

      back : (x : A) → P x ⊎ Q x → In x c.list ⊎ In x d.list
      back x (inl p) = inl ((c.exactly x).1 p)
      back x (inr q) = inr ((d.exactly x).1 q)

-- pairs whose first is u
module _ (u : ℕ) where
  abbrev pair : ℕ → ℕ × ℕ
  pair v = (u, v)

  in_pairs : (l : List ℕ) (x : ℕ × ℕ) → In x (map pair l) → (x.0 ≡ u) × In x.1 l
  in_pairs [] x i = absurd i
  in_pairs (v ∷ l) x (inl e) = (ap (λ (y : ℕ × ℕ). y.0) e, inl (ap (λ (y : ℕ × ℕ). y.1) e))
  in_pairs (v ∷ l) x (inr i) = let (e, j) = in_pairs l x i in (e, inr j)

  pairs-in : (l : List ℕ) (v : ℕ) → In v l → In (pair v) (map pair l)
  pairs-in [] v i = absurd i
  pairs-in (y ∷ l) v (inl e) = inl (ap pair e)
  pairs-in (y ∷ l) v (inr i) = inr (pairs-in l v i)

  once-pairs : (l : List ℕ) → NoRepeats l → NoRepeats (map pair l)
  once-pairs [] p = tt
  once-pairs (v ∷ l) p = (λ i. p.0 (in_pairs l (pair v) i).1, once-pairs l p.1)

  counts-pairs : (P : ℕ → Type 0) (a : ℕ) → Counts P a → Counts (λ (x : ℕ × ℕ). (x.0 ≡ u) × P x.1) a
  counts-pairs P a c = record {
    list = map pair c.list;
    once = once-pairs c.list c.once;
    exactly = λ x. (
      λ i. let (e, j) = in_pairs c.list x i in (e, (c.exactly x.1).0 j),
      λ p. subst (λ (y : ℕ). In (y, x.1) (map pair c.list)) (sym p.0) (pairs-in c.list x.1 ((c.exactly x.1).1 p.1)),
    );
    long = length-map c.list pair ∙ c.long;
  }

module _ (f : ℕ → Bool) where
  abbrev Passes : ℕ → ℕ → Type 0
  Passes n i = (i < n) × (f i ≡ true)

  -- count_below counts the numbers below n that pass
  pub counts-below : (n : ℕ) → Counts (Passes n) (count_below f n)
  unfolding count_below
  counts-below zero = counts-none (Passes 0) (λ x p. omega (arith, p.0))
  counts-below (suc n) = go (f n) refl (counts-below n)
    where
      last : f n ≡ true → (x : ℕ) → (x ≡ n) ⊎ Passes n x → Passes (suc n) x
      last e x (inl z) = (omega arith, rw z e)
      last e x (inr p) = (omega (arith, p.0), p.1)

      split : (x : ℕ) → Passes (suc n) x → Dec (x ≡ n) → (x ≡ n) ⊎ Passes n x
      split x p (yes e) = inl e
      split x p (no e) = inr (omega (arith, p.0), p.1)

      fewer : f n ≡ false → (x : ℕ) → Passes (suc n) x → Dec (x ≡ n) → Passes n x
      fewer q x p (yes e) = not-both q (rw e at p.1)
      fewer q x p (no e) = (omega (arith, p.0), p.1)

      go : (b : Bool) → f n ≡ b → Counts (Passes n) (count_below f n) → Counts (Passes (suc n)) (count_below f n + cond b 1 0)
      go true e c =
          let d = counts-as (λ y. (y ≡ n) ⊎ Passes n y) (Passes (suc n)) _ (λ x. (last e x, λ p. split x p (ℕ_discrete x n))) (counts-more (Passes n) _ n (λ p. omega (arith, p.0)) c) in
          subst (Counts (Passes (suc n))) (omega arith) d
      go false e c =
          let d = counts-as (Passes n) (Passes (suc n)) _ (λ x. (λ p. (omega (arith, p.0), p.1), λ p. fewer e x p (ℕ_discrete x n))) c in
          subst (Counts (Passes (suc n))) (omega arith) d

-- count_below counts what is below n and passes, whatever it is called
pub counts-test : (f : ℕ → Bool) (n : ℕ) (P : ℕ → Type 0) → ((x : ℕ) → P x → x < n) → ((x : ℕ) → (f x ≡ true) ↔ P x) → Counts P (count_below f n)
counts-test f n P h e = counts-as (Passes f n) P _ (λ x. (λ p. (e x).0 p.1, λ p. (h x p, (e x).1 p))) (counts-below f n)

module _ (m : Model) (start : State) (n k : ℕ) (w : Below m start n k) where
  -- of the users below t
  pub counts-users : (t : ℕ) → Counts (λ (x : ℕ × ℕ). (x.0 < t) × Reach m x.0 x.1) (pairs m n t)
  unfolding pairs
  counts-users zero = counts-none _ (λ x p. omega (arith, p.0))
  counts-users (suc t) =
      let one = counts-pairs t (Reach m t) _ (counts-test (in_table (reached m n t)) n (Reach m t) (λ x r. (reach-below m start n k w r).1) (reached-is m start n k w t)) in
      counts-as _ _ _ (λ x. (to x, λ p. back x p (ℕ_discrete x.0 t)))
      (counts-either (λ (x : ℕ × ℕ). (x.0 < t) × Reach m x.0 x.1) (λ (x : ℕ × ℕ). (x.0 ≡ t) × Reach m t x.1) _ _ (λ x p q. omega (arith, p.0, q.0)) (counts-users t) one)
    where
      to : (x : ℕ × ℕ) → ((x.0 < t) × Reach m x.0 x.1) ⊎ ((x.0 ≡ t) × Reach m t x.1) → (x.0 < suc t) × Reach m x.0 x.1
      to x (inl p) = (omega (arith, p.0), p.1)
      to x (inr p) = (omega (arith, p.0), rw p.0 p.1)

      back : (x : ℕ × ℕ) → (x.0 < suc t) × Reach m x.0 x.1 → Dec (x.0 ≡ t) → ((x.0 < t) × Reach m x.0 x.1) ⊎ ((x.0 ≡ t) × Reach m t x.1)
      back x p (yes e) = inr (e, rw e at p.1)
      back x p (no e) = inl (omega (arith, p.0), p.1)

  pub pairs-counted : Brought m start → Counts (λ (x : ℕ × ℕ). SessionStands m start x.0 x.1) (pairs m n m.users)
  pairs-counted b =
      counts-as (λ (x : ℕ × ℕ). (x.0 < m.users) × Reach m x.0 x.1) _ _
      (λ x. (λ p. (counts-are-exact.0 m start b x.0 x.1).1 p.1, λ s. let r = (counts-are-exact.0 m start b x.0 x.1).0 s in ((reach-below m start n k w r).0, r)))
      (counts-users m.users)

  pub values-counted : Brought m start → (which : Which) → AskedWhich m start which → Counts (ItemStands m start which) (values m start n k which)
  unfolding values
  values-counted b which c =
      counts-as (WhichReach m start which) _ _ (λ o. Iff.symm (counts-are-exact.1 m start b which c o))
      (counts-test (which_can m start n k which) k (WhichReach m start which) (λ o r. which-below m start n k w which o c r) (λ o. which_can-is m start n k w which o c))
