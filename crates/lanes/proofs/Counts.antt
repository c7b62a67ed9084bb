-- How many numbers a test holds of, for callers.
use mathlib.Core.Path.{◌≡◌, refl, ap, ◌∙◌}
use mathlib.Core.Bool.{Bool, true, false, not, ◌&&◌, cond, and-true, and-false}
use mathlib.Core.List.{List}
use Prim.Native.Nat.{ℕ, zero, suc, ◌+◌, ◌≤◌, ◌<◌}
use native.Mathlib.Decide.{ℕ_discrete}
use native.Mathlib.Omega.{arith}
use borrow.Author.Tests.{eq-eqb, ne_eqb}
use lib.Dec.{eqb}
use Rattle.std.specs.Prelude.{Some}
use Rattle.std.specs.Iterator.{MakesProgress, at_most}
use Rattle.lanes.specs.Lanes.{lane_of, Lanes, count_below, count_of}

module _ (f : ℕ → Bool) where
  pub count-below-le : (n : ℕ) → count_below f n ≤ n
  unfolding count_below
  count-below-le zero = omega arith
  count-below-le (suc n) = go (f n) (count-below-le n)
    where
      go : (b : Bool) → count_below f n ≤ n → count_below f n + cond b 1 0 ≤ suc n
      go true h = omega arith
      go false h = omega arith

  -- the first m, and the n after them
  pub count-split : (m n : ℕ) → count_below f (m + n) ≡ count_below f m + count_below (λ i. f (m + i)) n
  unfolding count_below
  count-split m zero = let e : count_below f (m + 0) ≡ count_below f m = ap (count_below f) (let z : m + 0 ≡ m = omega arith in z) in omega arith
  count-split m (suc n) =
      let e : count_below f (m + suc n) ≡ count_below f (suc (m + n)) = ap (count_below f) (let z : m + suc n ≡ suc (m + n) = omega arith in z) in
      omega (arith, count-split m n)

pub count-ext : (f g : ℕ → Bool) (n : ℕ) → ((i : ℕ) → i < n → f i ≡ g i) → count_below f n ≡ count_below g n
unfolding count_below
count-ext f g zero h = refl
count-ext f g (suc n) h = rw (count-ext f g n (λ i l. h i (omega arith)), h n (omega arith)) refl

-- one lane less
module _ (f g : ℕ → Bool) (v : ℕ) (here : f v ≡ true) where
  pub count-without : (n : ℕ) → v < n → ((w : ℕ) → w < n → g w ≡ f w && not (eqb w v)) → count_below g n + 1 ≡ count_below f n
  unfolding count_below
  count-without zero h e = absurd (omega arith)
  count-without (suc n) h e = go (ℕ_discrete v n) (λ l. count-without n l (λ w k. e w (omega arith)))
    where
      go : Dec (v ≡ n) → (v < n → count_below g n + 1 ≡ count_below f n) → count_below g (suc n) + 1 ≡ count_below f (suc n)
      go (yes d) ih =
          let gone : g n ≡ false = e n (omega arith) ∙ ap (λ (b : Bool). f n && not b) (eq-eqb n v (omega arith)) ∙ and-false (f n) in
          let was : f n ≡ true = ap f (omega arith) ∙ here in
          let same : count_below g n ≡ count_below f n =
          count-ext g f n (λ w l. e w (omega arith) ∙ ap (λ (b : Bool). f w && not b) (ne_eqb w v (λ z. omega arith)) ∙ and-true (f w)) in
          rw (gone, was) (omega arith)
      go (no d) ih =
          let same : g n ≡ f n = e n (omega arith) ∙ ap (λ (b : Bool). f n && not b) (ne_eqb n v (λ z. d (omega arith))) ∙ and-true (f n) in
          rw same (omega (arith, ih (omega arith)))

-- a set that a lane was taken out of has fewer
pub count-taken : (x y : List ℕ) (v : ℕ) → v < 256 → lane_of x v ≡ true → Lanes (λ w. lane_of x w && not (eqb w v)) y → count_of y < count_of x
unfolding count_of
count-taken x y v h t l = omega (arith, count-without (lane_of x) (lane_of y) v t 256 h l.each)

-- so going through the lanes of a set goes on: fewer are left
pub taken-goes : (pick : List ℕ → ℕ) → ((x : List ℕ) → pick x < 256 → lane_of x (pick x) ≡ true) → (x y : List ℕ) (v : ℕ) → v ≡ pick x → v < 256
    → Lanes (λ w. lane_of x w && not (eqb w v)) y → MakesProgress (λ (s : List ℕ). Unit {0}) (λ (s : List ℕ). at_most (count_of s)) x (Some v) y
taken-goes pick here x y v e h l = record {
  on = λ f. (tt, f, count-taken x y v h (ap (lane_of x) e ∙ here x (omega (arith, e))) l);
  keeps = tt;
  rests = λ f. tt;
}
