-- Laws of numbers by their bits. In order: bits of a field; one bit behind a number; the number of an operand, below and above its field, and
-- where it is the same in every word of 64 lanes; two numbers with one bit more.
use mathlib.Core.Path.{◌≡◌, refl, sym, ap, ◌∙◌}
use mathlib.Core.Bool.{Bool, true, false, not, ◌&&◌, ◌||◌, xor, cond}
use Prim.Native.Nat.{ℕ, zero, suc, ◌+◌, ◌-◌, ◌*◌, ◌/◌, ◌%◌, ◌^◌, ◌≤◌, ◌<◌}
use native.Mathlib.Decide.{dec_lt, ℕ_discrete}
use native.Mathlib.Nat.{mod-lt, div-eq_of_lt}
use native.Mathlib.Numerals.{one-add}
use native.Mathlib.Omega.{arith}
use borrow.Author.Tests.{lt-ltb, le-ltb, eq-eqb, ne_eqb}
use lib.Dec.{ltb, eqb}
use lib.Pow.{pow_pos, pow_mono, field, high, low, mod-mod-pow, shr-shr}
use Rattle.lanes.specs.Lanes.{bit_of}
use Rattle.planes.specs.Word.{number_in}
use Rattle.planes.specs.declared.operand.Operand.{Operand}

-- a number has no bit past its width
pub bit-out : (x w k : ℕ) → x < 2 ^ w → w ≤ k → bit_of x k ≡ false
unfolding bit_of
bit-out x w k h l = let e : x / 2 ^ k ≡ 0 = div-eq_of_lt {n = x} {m = 2 ^ k} (omega (arith, pow_mono {i = w} {j = k} l)) in rw e refl

-- the last w bits are those of the number
bit_in : (x w k : ℕ) → k < w → bit_of (x % 2 ^ w) k ≡ bit_of x k
unfolding bit_of
bit_in x w k h =
    let j = w - k - 1 in
    let a : w ≡ (j + 1) + k = omega arith in
    ap (λ (z : ℕ). eqb (x % 2 ^ z / 2 ^ k % 2) 1) a
    ∙ ap (λ (z : ℕ). eqb (z % 2) 1) (field x (j + 1) k)
    ∙ ap (λ (z : ℕ). eqb z 1) (mod-mod-pow (x / 2 ^ k) j 1)

bit-shr : (x s k : ℕ) → bit_of (x / 2 ^ s) k ≡ bit_of x (s + k)
unfolding bit_of
bit-shr x s k = ap (λ (z : ℕ). eqb (z % 2) 1) (shr-shr x s k)

-- a number with one bit behind it: that bit, and the others
pub bit-first : (n : ℕ) (b : Bool) → bit_of (2 * n + cond b 1 0) 0 ≡ b
unfolding bit_of
bit-first n true = let e : (2 * n + 1) / 2 ^ 0 % 2 ≡ 1 = omega arith in rw e refl
bit-first n false = let e : (2 * n + 0) / 2 ^ 0 % 2 ≡ 0 = omega arith in rw e refl

pub bit-later : (n : ℕ) (b : Bool) (k : ℕ) → bit_of (2 * n + cond b 1 0) (suc k) ≡ bit_of n k
bit-later n b k =
    ap (bit_of (2 * n + cond b 1 0)) (sym (one-add k)) ∙ sym (bit-shr (2 * n + cond b 1 0) 1 k) ∙ ap (λ (z : ℕ). bit_of z k) (half b)
  where
    half : (b : Bool) → (2 * n + cond b 1 0) / 2 ^ 1 ≡ n
    half true = omega arith
    half false = omega arith

module _ (o : Operand) (v : ℕ) where
  lo : v / 2 ^ o.shift % 2 ^ o.bits < 2 ^ o.bits
  lo = mod-lt (v / 2 ^ o.shift) (pow_pos o.bits)

  -- a bit of the field
  pub number-low : (k : ℕ) → k < o.bits → bit_of (number_in o v) k ≡ bit_of v (o.shift + k)
  unfolding number_in
  number-low k h =
      sym (bit_in (number_in o v) o.bits k h)
      ∙ ap (λ (z : ℕ). bit_of z k) (low (o.number / 2 ^ o.bits) o.bits lo)
      ∙ bit_in (v / 2 ^ o.shift) o.bits k h
      ∙ bit-shr v o.shift k

  -- what stands above the field
  pub number-high : (n : ℕ) → o.bits ≤ n → number_in o v / 2 ^ n ≡ o.number / 2 ^ n
  unfolding number_in
  number-high n h =
      let e : n ≡ o.bits + (n - o.bits) = omega arith in
      ap (λ (z : ℕ). number_in o v / 2 ^ z) e
      ∙ sym (shr-shr (number_in o v) o.bits (n - o.bits))
      ∙ ap (λ (z : ℕ). z / 2 ^ (n - o.bits)) (high (o.number / 2 ^ o.bits) o.bits lo)
      ∙ shr-shr o.number o.bits (n - o.bits)
      ∙ ap (λ (z : ℕ). o.number / 2 ^ z) (sym e)

  pub number_bit : (k : ℕ) → o.bits ≤ k → bit_of (number_in o v) k ≡ bit_of o.number k
  unfolding bit_of
  number_bit k h = ap (λ (z : ℕ). eqb (z % 2) 1) (number-high k h)

-- one number in all lanes
pub number-constant : (n s v : ℕ) → number_in record { shift = 0; bits = 0; number = n; size = s } v ≡ n
unfolding number_in
number-constant n s v = omega arith

pub number-plain : (o : Operand) (v : ℕ) → o.bits ≡ 0 → number_in o v ≡ o.number
unfolding number_in
number-plain o v e =
    ap (λ (b : ℕ). o.number / 2 ^ b * 2 ^ b + v / 2 ^ o.shift % 2 ^ b) e ∙ one o.number (v / 2 ^ o.shift)
  where
    one : (m u : ℕ) → m / 2 ^ 0 * 2 ^ 0 + u % 2 ^ 0 ≡ m
    one m u = omega arith

-- a field that ends at bit 6 or before it looks at nothing else
low_field : (v s b : ℕ) → s + b ≤ 6 → v / 2 ^ s % 2 ^ b ≡ v % 2 ^ 6 / 2 ^ s % 2 ^ b
low_field v s b h =
    let d = 6 - (b + s) in
    let e : d + (b + s) ≡ 6 = omega arith in
    sym (field v b s)
    ∙ ap (λ (z : ℕ). z / 2 ^ s) (sym (mod-mod-pow v d (b + s)))
    ∙ ap (λ (n : ℕ). v % 2 ^ n % 2 ^ (b + s) / 2 ^ s) e
    ∙ field (v % 2 ^ 6) b s

-- so it is the same in every word
pub number-alike : (o : Operand) → o.shift + o.bits ≤ 6 → (w j : ℕ) → number_in o (64 * w + j) ≡ number_in o j
unfolding number_in
number-alike o h w j =
    let e : (64 * w + j) % 2 ^ 6 ≡ j % 2 ^ 6 = omega arith in
    ap (λ (z : ℕ). o.number / 2 ^ o.bits * 2 ^ o.bits + z)
    (low_field (64 * w + j) o.shift o.bits h ∙ ap (λ (z : ℕ). z / 2 ^ o.shift % 2 ^ o.bits) e ∙ sym (low_field j o.shift o.bits h))

pub plain-alike : (o : Operand) → o.bits ≡ 0 → (w j : ℕ) → number_in o (64 * w + j) ≡ number_in o j
plain-alike o e w j = number-plain o (64 * w + j) e ∙ sym (number-plain o j e)

two : (P : ℕ → Type 0) → P 0 → P 1 → (q : ℕ) → q < 2 → P q
two P a b zero h = a
two P a b (suc zero) h = b
two P a b (suc (suc q)) h = absurd (omega arith)

-- a digit more, behind
same_digits : (p q a b : ℕ) → a < 2 → b < 2 → eqb (p * 2 + a) (q * 2 + b) ≡ eqb p q && not (xor (eqb a 1) (eqb b 1))
unfolding xor
same_digits p q a b ha hb = go (ℕ_discrete p q)
  where
    go : Dec (p ≡ q) → eqb (p * 2 + a) (q * 2 + b) ≡ eqb p q && not (xor (eqb a 1) (eqb b 1))
    go (no n) = ne_eqb (p * 2 + a) (q * 2 + b) (λ e. n (omega arith)) ∙ sym (ap (λ (t : Bool). t && not (xor (eqb a 1) (eqb b 1))) (ne_eqb p q n))
    go (yes e) =
        two (λ a. eqb (p * 2 + a) (q * 2 + b) ≡ not (xor (eqb a 1) (eqb b 1)))
        (two (λ b. eqb (p * 2 + 0) (q * 2 + b) ≡ not (xor false (eqb b 1))) (eq-eqb (p * 2 + 0) (q * 2 + 0) (omega arith)) (ne_eqb (p * 2 + 0) (q * 2 + 1) (λ z. omega arith)) b hb)
        (two (λ b. eqb (p * 2 + 1) (q * 2 + b) ≡ not (xor true (eqb b 1))) (ne_eqb (p * 2 + 1) (q * 2 + 0) (λ z. omega arith)) (eq-eqb (p * 2 + 1) (q * 2 + 1) (omega arith)) b hb)
        a ha
        ∙ sym (ap (λ (t : Bool). t && not (xor (eqb a 1) (eqb b 1))) (eq-eqb p q e))

below-digits : (p q a b : ℕ) → a < 2 → b < 2 → ltb (p * 2 + a) (q * 2 + b) ≡ ltb p q || (eqb p q && (not (eqb a 1) && eqb b 1))
below-digits p q a b ha hb = go (dec_lt p q) (dec_lt q p)
  where
    rest : Bool
    rest = not (eqb a 1) && eqb b 1

    go : Dec (p < q) → Dec (q < p) → ltb (p * 2 + a) (q * 2 + b) ≡ ltb p q || (eqb p q && (not (eqb a 1) && eqb b 1))
    go (yes h) d = lt-ltb (p * 2 + a) (q * 2 + b) (omega arith) ∙ sym (ap (λ (t : Bool). t || (eqb p q && (not (eqb a 1) && eqb b 1))) (lt-ltb p q h))
    go (no h) (yes g) =
        le-ltb (p * 2 + a) (q * 2 + b) (omega arith)
        ∙ sym (ap (λ (t : Bool). t || (eqb p q && (not (eqb a 1) && eqb b 1))) (le-ltb p q (omega arith)) ∙ ap (λ (t : Bool). t && (not (eqb a 1) && eqb b 1)) (ne_eqb p q (λ e. omega arith)))
    go (no h) (no g) =
        two (λ a. ltb (p * 2 + a) (q * 2 + b) ≡ not (eqb a 1) && eqb b 1)
        (two (λ b. ltb (p * 2 + 0) (q * 2 + b) ≡ eqb b 1) (le-ltb (p * 2 + 0) (q * 2 + 0) (omega arith)) (lt-ltb (p * 2 + 0) (q * 2 + 1) (omega arith)) b hb)
        (le-ltb (p * 2 + 1) (q * 2 + b) (omega arith))
        a ha
        ∙ sym (ap (λ (t : Bool). t || (eqb p q && (not (eqb a 1) && eqb b 1))) (le-ltb p q (omega arith)) ∙ ap (λ (t : Bool). t && (not (eqb a 1) && eqb b 1)) (eq-eqb p q (omega arith)))

-- what is left of a bit and what stands above it
cut : (x m k : ℕ) → m ≡ k + 1 → x / 2 ^ k ≡ x / 2 ^ m * 2 + x / 2 ^ k % 2
cut x m k e = let s : x / 2 ^ k / 2 ^ 1 ≡ x / 2 ^ m = shr-shr x k 1 ∙ ap (λ (z : ℕ). x / 2 ^ z) (sym e) in omega arith

module _ (x y m k : ℕ) (e : m ≡ k + 1) where
  pub same_more : eqb (x / 2 ^ k) (y / 2 ^ k) ≡ eqb (x / 2 ^ m) (y / 2 ^ m) && not (xor (bit_of x k) (bit_of y k))
  unfolding bit_of
  same_more =
      ap (λ (z : ℕ). eqb z (y / 2 ^ k)) (cut x m k e) ∙ ap (eqb (x / 2 ^ m * 2 + x / 2 ^ k % 2)) (cut y m k e)
      ∙ same_digits (x / 2 ^ m) (y / 2 ^ m) (x / 2 ^ k % 2) (y / 2 ^ k % 2) (omega arith) (omega arith)

  pub below_more : ltb (x / 2 ^ k) (y / 2 ^ k) ≡ ltb (x / 2 ^ m) (y / 2 ^ m) || (eqb (x / 2 ^ m) (y / 2 ^ m) && (not (bit_of x k) && bit_of y k))
  unfolding bit_of
  below_more =
      ap (λ (z : ℕ). ltb z (y / 2 ^ k)) (cut x m k e) ∙ ap (ltb (x / 2 ^ m * 2 + x / 2 ^ k % 2)) (cut y m k e)
      ∙ below-digits (x / 2 ^ m) (y / 2 ^ m) (x / 2 ^ k % 2) (y / 2 ^ k % 2) (omega arith) (omega arith)
