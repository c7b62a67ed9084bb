-- Laws of sets as masks. In order: bits of numbers, tests, sizes, sets shifted to begin at bit 7, masks.
use mathlib.Core.Path.{◌≡◌, refl, sym, ap, ◌∙◌}
use mathlib.Core.Bool.{Bool, true, false, not, ◌&&◌, ◌||◌}
use mathlib.Core.Logic.{⊎_elim}
use Prim.Native.Nat.{ℕ, zero, suc, ◌+◌, ◌-◌, ◌*◌, ◌/◌, ◌%◌, ◌^◌, ◌≤◌, ◌<◌, min}
use native.Mathlib.Decide.{dec_lt}
use native.Mathlib.Nat.{min-le_left, min-le_right, min-eq_left, min-eq_right, mul_assoc, mod-lt, eq-or-lt_of_le, le_of_suc-le-suc}
use native.Mathlib.Numerals.{one-add}
use native.Mathlib.Omega.{arith}
use borrow.Author.Tests.{lt-ltb, le-ltb, eq-eqb, eqb-true}
use lib.Bits.{bit_and, and_shr, and_step, and_lt, and_mask, shifted_even}
use lib.Dec.{eqb}
use lib.Pow.{pow_pos, pow-add, shr-shr, shl-shr, mod-mod-pow}
use Rattle.bits.specs.Set.{size_of, in_set, all_below, subset_of}
use Rattle.bits.proofs.Laws.{pow_more, nth, cut-bits}

bit-and : (a b k : ℕ) → bit_and a b / 2 ^ k % 2 ≡ min (a / 2 ^ k % 2) (b / 2 ^ k % 2)
bit-and a b k = ap (λ (z : ℕ). z % 2) (and_shr a b k) ∙ low_and (a / 2 ^ k) (b / 2 ^ k)
  where
    low_and : (p q : ℕ) → bit_and p q % 2 ≡ min (p % 2) (q % 2)
    low_and p q = omega (arith, and_step p q, min-le_left (p % 2) (q % 2))

bit-suc : (a k : ℕ) → a / 2 ^ suc k % 2 ≡ a / 2 / 2 ^ k % 2
bit-suc a k = ap (λ (z : ℕ). z % 2) (ap (λ (j : ℕ). a / 2 ^ j) (sym (one-add k)) ∙ sym (shr-shr a 1 k))

-- two numbers below 2 ^ k with the same k bits are equal
bits-ext : (k a b : ℕ) → a < 2 ^ k → b < 2 ^ k → ((i : ℕ) → i < k → a / 2 ^ i % 2 ≡ b / 2 ^ i % 2) → a ≡ b
bits-ext zero a b ha hb f = omega arith
bits-ext (suc k) a b ha hb f =
    omega (
      arith,
      f 0 (omega arith),
      bits-ext k (a / 2) (b / 2) (omega (arith, pow_more k)) (omega (arith, pow_more k)) (λ i h. sym (bit-suc a i) ∙ f (suc i) (omega arith) ∙ bit-suc b i),
    )

-- two tests that hold together are equal
pub bool_iff : (p q : Bool) → (p ≡ true → q ≡ true) → (q ≡ true → p ≡ true) → p ≡ q
bool_iff true q f g = sym (f refl)
bool_iff false true f g = g refl
bool_iff false false f g = refl

pub both_true : (a b : Bool) → a && b ≡ true → (a ≡ true) × (b ≡ true)
both_true true b h = (refl, h)
both_true false b h = (h, cc)

pub all-at : (f : ℕ → Bool) (n : ℕ) → all_below f n ≡ true → (i : ℕ) → i < n → f i ≡ true
unfolding all_below
all-at f zero t i h = absurd (omega arith)
all-at f (suc n) t i h =
    let b = both_true (all_below f n) (f n) t in
    ⊎_elim (λ e. ap f e ∙ b.1) (λ l. all-at f n b.0 i l) (eq-or-lt_of_le (le_of_suc-le-suc h))

pub all_of : (f : ℕ → Bool) (n : ℕ) → ((i : ℕ) → i < n → f i ≡ true) → all_below f n ≡ true
unfolding all_below
all_of f zero g = refl
all_of f (suc n) g = simp (all_of f n (λ i h. g i (omega arith)), g n (omega arith))

module _ (n : ℕ) where
  pub size_small : n ≤ 8 → size_of n ≡ n
  unfolding size_of
  size_small h = min-eq_left h

  pub size-large : 8 ≤ n → size_of n ≡ 8
  unfolding size_of
  size-large h = min-eq_right h

  pub size-le : size_of n ≤ 8
  unfolding size_of
  size-le = min-le_right n 8

-- the set of size n in x, with member 0 at bit 7
abbrev pub aligned : ℕ → ℕ → ℕ
aligned n x = x * 2 ^ (8 - size_of n) % 2 ^ 8

aligned-lt : (n x : ℕ) → aligned n x < 2 ^ 8
aligned-lt n x = mod-lt (x * 2 ^ (8 - size_of n)) (pow_pos 8)

module _ (n x i : ℕ) (h : i < 8) where
  shifted_in : i < size_of n → nth 8 (x * 2 ^ (8 - size_of n)) i ≡ nth (size_of n) x i
  shifted_in l =
      let k = 8 - size_of n in
      let j = size_of n - 1 - i in
      let e : 8 - 1 - i ≡ k + j = omega (arith, size-le n) in
      ap (λ (z : ℕ). z % 2) (ap (λ (z : ℕ). x * 2 ^ k / 2 ^ z) e ∙ sym (shr-shr (x * 2 ^ k) k j) ∙ ap (λ (z : ℕ). z / 2 ^ j) (shl-shr x k))

  shifted-out : size_of n ≤ i → nth 8 (x * 2 ^ (8 - size_of n)) i ≡ 0
  shifted-out l =
      let j = i - size_of n in
      let k = 8 - 1 - i in
      let e : 8 - size_of n ≡ suc j + k = omega arith in
      ap (λ (z : ℕ). z / 2 ^ k % 2) (ap (λ (z : ℕ). x * 2 ^ z) e ∙ ap (λ (z : ℕ). x * z) (pow-add 2 (suc j) k) ∙ sym (mul_assoc x (2 ^ suc j) (2 ^ k)))
      ∙ ap (λ (z : ℕ). z % 2) (shl-shr (x * 2 ^ suc j) k)
      ∙ shifted_even x j

  -- a member is a bit of the shifted set
  in-aligned : in_set n x i ≡ eqb (nth 8 (aligned n x) i) 1
  unfolding in_set
  in-aligned =
      elim (dec_lt i (size_of n)) [
        | yes l ↦ simp (lt-ltb i (size_of n) l, cut-bits (x * 2 ^ (8 - size_of n)) 8 i h, shifted_in l)
        | no g ↦ simp (le-ltb i (size_of n) (omega arith), cut-bits (x * 2 ^ (8 - size_of n)) 8 i h, shifted-out (omega arith))
      ]

implied : (p q : ℕ) → p < 2 → q < 2 → p ≡ min p q → not (eqb p 1) || eqb q 1 ≡ true
implied zero q hp hq e = refl
implied (suc zero) zero hp hq e = absurd (omega (arith, min-le_right 1 0))
implied (suc zero) (suc zero) hp hq e = refl
implied (suc zero) (suc (suc q)) hp hq e = absurd (omega arith)
implied (suc (suc p)) q hp hq e = absurd (omega arith)

implies : (p q : ℕ) → p < 2 → q < 2 → not (eqb p 1) || eqb q 1 ≡ true → min p q ≡ p
implies zero q hp hq e = min-eq_left (omega arith)
implies (suc zero) zero hp hq e = let z : ◌≡◌ {A = ℕ} 0 1 = cc in absurd (omega arith)
implies (suc zero) (suc q) hp hq e = min-eq_left (omega arith)
implies (suc (suc p)) q hp hq e = absurd (omega arith)

module _ (n x m y : ℕ) where
  subset-of : bit_and (aligned n x) (aligned m y) ≡ aligned n x → subset_of n x m y ≡ true
  unfolding subset_of
  subset-of e =
      all_of _ (size_of n) (λ i l.
      let h : i < 8 = omega (arith, size-le n) in
      simp (in-aligned n x i h, in-aligned m y i h)
      (implied _ _ (omega arith) (omega arith) (sym (ap (λ (z : ℕ). nth 8 z i) e) ∙ bit-and (aligned n x) (aligned m y) (8 - 1 - i))))

  subset-bit : subset_of n x m y ≡ true → (i : ℕ) → i < 8 → min (nth 8 (aligned n x) i) (nth 8 (aligned m y) i) ≡ nth 8 (aligned n x) i
  unfolding subset_of
  subset-bit e i h =
      elim (dec_lt i (size_of n)) [
        | yes l ↦ implies _ _ (omega arith) (omega arith) (simp (in-aligned n x i h, in-aligned m y i h) at (all-at _ (size_of n) e i l))
        | no g ↦ min-eq_left (omega (arith, cut-bits (x * 2 ^ (8 - size_of n)) 8 i h, shifted-out n x i h (omega arith)))
      ]

  subset-mask : subset_of n x m y ≡ true → bit_and (aligned n x) (aligned m y) ≡ aligned n x
  subset-mask e =
      bits-ext 8 _ _ (and_lt 8 _ _ (aligned-lt n x) (aligned-lt m y)) (aligned-lt n x)
      (λ k h.
      let back : 8 - 1 - (7 - k) ≡ k = omega arith in
      bit-and (aligned n x) (aligned m y) k ∙ rw back at (subset-bit e (7 - k) (omega arith)))

  -- a subset, as the machine tests it
  pub mask-subset : eqb (bit_and (aligned n x) (aligned m y)) (aligned n x) ≡ subset_of n x m y
  mask-subset = bool_iff _ _ (λ e. subset-of (eqb-true _ _ e)) (λ e. eq-eqb _ _ (subset-mask e))

-- a shift and a mask align a set
pub shift-mask : (n x : ℕ) → bit_and (x * 2 ^ (8 - size_of n) % 2 ^ 64) 255 ≡ aligned n x
shift-mask n x = let v = x * 2 ^ (8 - size_of n) in and_mask (v % 2 ^ 64) 8 ∙ mod-mod-pow v 56 8

-- nothing past the size is a member
pub no_member : (n x i : ℕ) → size_of n ≤ i → in_set n x i ≡ false
unfolding in_set
no_member n x i h = simp (le-ltb i (size_of n) h)
