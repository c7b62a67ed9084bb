-- Laws of one turn of each loop over bits or members, in all lanes at once. In order: two numbers below and the same, by one bit more; no bit
-- from a place on; a number among the first members; a set within another, by one member more.
use mathlib.Core.Path.{◌≡◌, refl, sym, ap, ap₂, ◌∙◌}
use mathlib.Core.Bool.{Bool, true, false, not, ◌&&◌, ◌||◌, xor}
use mathlib.Core.List.{List}
use Prim.Native.Nat.{ℕ, ◌+◌, ◌-◌, ◌/◌, ◌%◌, ◌^◌, ◌<◌, ◌≤◌}
use native.Mathlib.Decide.{dec_lt, ℕ_discrete}
use native.Mathlib.Nat.{zero-div}
use native.Mathlib.Numerals.{add-one}
use native.Mathlib.Omega.{arith}
use borrow.Author.Tests.{lt-ltb, le-ltb, eq-eqb, ne_eqb}
use lib.Bits.{bit_and, bit_or, bit_xor}
use Rattle.std.proofs.lemmas.Nat.{xor_lt}
use lib.Dec.{ltb, eqb}
use Rattle.bits.specs.Set.{size_of, in_set, all_below}
use Rattle.bits.proofs.Set.{size-le}
use Rattle.lanes.specs.Lanes.{bit_of}
use Rattle.lanes.proofs.Bits.{bit-and, bit-or, bit-xor, bit_not, bit-zero}
use Rattle.planes.specs.Word.{Told}
use Rattle.planes.proofs.Numbers.{same_more, below_more}
use Rattle.planes.proofs.Words.{told-as}

all_more : (f : ℕ → Bool) (k : ℕ) → all_below f (k + 1) ≡ all_below f k && f k
unfolding all_below
all_more f k = rw add-one

-- a set has no member past its size
pub no_member : (n x i : ℕ) → size_of n ≤ i → in_set n x i ≡ false
unfolding in_set
no_member n x i h = simp (le-ltb i (size_of n) h)

or-false : (a : Bool) → a || false ≡ a
or-false true = refl
or-false false = refl

xor-false : (a : Bool) → xor a false ≡ a
unfolding xor
xor-false true = refl
xor-false false = refl

module _ (t : List ℕ) where
  pub told_and : (f g : ℕ → Bool) (x y : ℕ) → Told t f x → Told t g y → Told t (λ v. f v && g v) (bit_and x y)
  told_and f g x y F G = record { each = λ j h. bit-and x y j ∙ ap₂ ◌&&◌ (F.each j h) (G.each j h) }

  pub told-or : (f g : ℕ → Bool) (x y : ℕ) → Told t f x → Told t g y → Told t (λ v. f v || g v) (bit_or x y)
  told-or f g x y F G = record { each = λ j h. bit-or x y j ∙ ap₂ ◌||◌ (F.each j h) (G.each j h) }

  pub told-not : (f : ℕ → Bool) (x : ℕ) → x < 2 ^ 64 → Told t f x → Told t (λ v. not (f v)) (18446744073709551615 - x)
  told-not f x b F = record { each = λ j h. bit_not x j b h ∙ ap not (F.each j h) }

  told-xor : (f g : ℕ → Bool) (x y : ℕ) → Told t f x → Told t g y → Told t (λ v. xor (f v) (g v)) (bit_xor x y)
  told-xor f g x y F G = record { each = λ j h. bit-xor x y j ∙ ap₂ xor (F.each j h) (G.each j h) }

  module _ (X Y : ℕ → ℕ) (m k below same p q : ℕ) (e : m ≡ k + 1)
      (B : Told t (λ v. ltb (X v / 2 ^ m) (Y v / 2 ^ m)) below) (S : Told t (λ v. eqb (X v / 2 ^ m) (Y v / 2 ^ m)) same)
      (b : p < 2 ^ 64) (d : q < 2 ^ 64)
      (P : Told t (λ v. bit_of (X v) k) p) (Q : Told t (λ v. bit_of (Y v) k) q) where
    pub below-turn : Told t (λ v. ltb (X v / 2 ^ k) (Y v / 2 ^ k)) (bit_or below (bit_and same (bit_and (18446744073709551615 - p) q)))
    below-turn = told-as t _ _ _ (told-or _ _ _ _ B (told_and _ _ _ _ S (told_and _ _ _ _ (told-not _ _ b P) Q))) (λ v. sym (below_more (X v) (Y v) m k e))

    pub same_turn : Told t (λ v. eqb (X v / 2 ^ k) (Y v / 2 ^ k)) (bit_and same (18446744073709551615 - bit_xor p q))
    same_turn = told-as t _ _ _ (told_and _ _ _ _ S (told-not _ _ (xor_lt 64 p q b d) (told-xor _ _ _ _ P Q))) (λ v. sym (same_more (X v) (Y v) m k e))

  pub narrow-turn : (m k r p : ℕ) → m ≡ k + 1 → p < 2 ^ 64 → Told t (λ v. eqb (v / 2 ^ m) 0) r → Told t (λ v. bit_of v k) p
      → Told t (λ v. eqb (v / 2 ^ k) 0) (bit_and r (18446744073709551615 - p))
  narrow-turn m k r p e b R P = told-as t _ _ _ (told_and _ _ _ _ R (told-not _ _ b P)) (λ v. sym (less v))
    where
      less : (v : ℕ) → eqb (v / 2 ^ k) 0 ≡ eqb (v / 2 ^ m) 0 && not (bit_of v k)
      less v =
          ap (eqb (v / 2 ^ k)) (sym (zero-div (2 ^ k))) ∙ same_more v 0 m k e
          ∙ ap₂ ◌&&◌ (ap (eqb (v / 2 ^ m)) (zero-div (2 ^ m))) (ap not (ap (xor (bit_of v k)) (bit-zero k) ∙ xor-false (bit_of v k)))

  -- a number below i that is a member, or i where i is one
  pub member-turn : (X : ℕ → ℕ) (S : ℕ → ℕ → Bool) (i r s h : ℕ) → Told t (λ v. ltb (X v) i && S v (X v)) r → Told t (λ v. eqb (X v) i) s → Told t (λ v. S v i) h
      → Told t (λ v. ltb (X v) (i + 1) && S v (X v)) (bit_or r (bit_and s h))
  member-turn X S i r s h R E H = told-as t _ _ _ (told-or _ _ _ _ R (told_and _ _ _ _ E H)) (λ v. go v (dec_lt (X v) i) (ℕ_discrete (X v) i))
    where
      go : (v : ℕ) → Dec (X v < i) → Dec (X v ≡ i) → (ltb (X v) i && S v (X v)) || (eqb (X v) i && S v i) ≡ ltb (X v) (i + 1) && S v (X v)
      go v (yes l) d = rw (lt-ltb (X v) i l, lt-ltb (X v) (i + 1) (omega arith), ne_eqb (X v) i (λ z. omega arith)) (or-false (S v (X v)))
      go v (no l) (yes e) = rw (le-ltb (X v) i (omega arith), lt-ltb (X v) (i + 1) (omega arith), eq-eqb (X v) i e) (ap (S v) (sym e))
      go v (no l) (no e) = rw (le-ltb (X v) i (omega arith), le-ltb (X v) (i + 1) (omega arith), ne_eqb (X v) i e) refl

  pub subset-turn : (F G : ℕ → ℕ → Bool) (i r p q : ℕ) → p < 2 ^ 64 → Told t (λ v. all_below (λ a. not (F v a) || G v a) i) r → Told t (λ v. F v i) p → Told t (λ v. G v i) q
      → Told t (λ v. all_below (λ a. not (F v a) || G v a) (i + 1)) (bit_and r (bit_or (18446744073709551615 - p) q))
  subset-turn F G i r p q b R P Q =
      told-as t _ _ _ (told_and _ _ _ _ R (told-or _ _ _ _ (told-not _ _ b P) Q)) (λ v. sym (all_more (λ a. not (F v a) || G v a) i))

  -- what a set has of its members
  pub has_in : (X : ℕ → ℕ) (n i m x : ℕ) → i < size_of n → m ≡ size_of n → Told t (λ v. bit_of (X v) (m - 1 - i)) x → Told t (λ v. in_set n (X v) i) x
  unfolding in_set bit_of
  has_in X n i m x l e B = told-as t _ _ _ B (λ v. ap (λ (z : ℕ). eqb (X v / 2 ^ (z - 1 - i) % 2) 1) e ∙ sym (ap (λ (b : Bool). b && eqb (X v / 2 ^ (size_of n - 1 - i) % 2) 1) (lt-ltb i (size_of n) l)))

-- a member is one of the first eight numbers
pub member-all : (n y x : ℕ) → ltb x 8 && in_set n y x ≡ in_set n y x
member-all n y x = go (dec_lt x 8)
  where
    go : Dec (x < 8) → ltb x 8 && in_set n y x ≡ in_set n y x
    go (yes l) = rw (lt-ltb x 8 l) refl
    go (no l) = rw (le-ltb x 8 (omega arith)) (sym (no_member n y x (omega (arith, size-le n))))
