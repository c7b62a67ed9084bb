-- Laws of bits and of numbers at places. In order: single bits, numbers made of bits, a number in parts, the bits of a number, bytes, fields.
-- Not here: fields side by side (Packed), storing them (Stored), sets (Set).
use mathlib.Core.Path.{◌≡◌, refl, sym, ap, ◌∙◌}
use mathlib.Core.List.{List}
use Prim.Native.Nat.{ℕ, zero, suc, ◌+◌, ◌-◌, ◌*◌, ◌/◌, ◌%◌, ◌^◌, ◌≤◌, ◌<◌}
use native.Mathlib.Decide.{dec_lt}
use native.Mathlib.Nat.{mod-eq_of_lt, div-eq_of_lt, mul_assoc, one-mul}
use native.Mathlib.Numerals.{unary_clauses}
use native.Mathlib.Omega.{arith}
use borrow.Author.Tests.{le-leb, lt-leb}
use lib.ListN.{length, get_or}
use lib.Pow.{pow_pos, pow_mono, shr-shr, shl_exact, high, low, mod-pow-add, mod-mod-pow}
use lib.Pow as pow
use Rattle.bits.specs.Field.{bit_at, number_of, number_at, field_at}
use Rattle.std.specs.Prelude.{Some, None}

pub bit-lt : (s : List ℕ) (i : ℕ) → bit_at s i < 2
unfolding bit_at
bit-lt s i = omega arith

pub pow_more : (k : ℕ) → 2 ^ suc k ≡ 2 ^ k * 2
pow_more k = simp unary_clauses

-- nothing is left of a number without the bits that it fits in
pub none_above : (x n k : ℕ) → x < 2 ^ n → n ≤ k → x / 2 ^ k ≡ 0
none_above x n k h l = let e : x < 2 ^ k = omega (arith, pow_mono l) in div-eq_of_lt e

pub number_is : (s : List ℕ) (pos w : ℕ) → number_at s pos w ≡ number_of (bit_at s) pos w
unfolding number_at
number_is s pos w = refl

pub number-ext : (b c : ℕ → ℕ) (p q n : ℕ) → ((i : ℕ) → i < n → b (p + i) ≡ c (q + i)) → number_of b p n ≡ number_of c q n
unfolding number_of
number-ext b c p q zero h = refl
number-ext b c p q (suc n) h = omega (arith, number-ext b c p q n (λ i l. h i (omega arith)), h n (omega arith))

pub number-zeros : (b : ℕ → ℕ) (p n : ℕ) → ((i : ℕ) → i < n → b (p + i) ≡ 0) → number_of b p n ≡ 0
unfolding number_of
number-zeros b p zero h = refl
number-zeros b p (suc n) h = omega (arith, number-zeros b p n (λ i l. h i (omega arith)), h n (omega arith))

pub bits-lt : (b : ℕ → ℕ) → ((i : ℕ) → b i < 2) → (p n : ℕ) → number_of b p n < 2 ^ n
unfolding number_of
bits-lt b two p zero = pow_pos 0
bits-lt b two p (suc n) = omega (arith, bits-lt b two p n, two (p + n), pow_more n)

pub number_lt : (s : List ℕ) (pos w : ℕ) → number_at s pos w < 2 ^ w
unfolding number_at
number_lt s pos w = bits-lt (bit_at s) (bit-lt s) pos w

-- a number of m + n bits is its first m, then its last n
pub number-split : (b : ℕ → ℕ) (pos m n : ℕ) → number_of b pos (m + n) ≡ number_of b pos m * 2 ^ n + number_of b (pos + m) n
unfolding number_of
number-split b pos m zero = let e : number_of b pos (m + 0) ≡ number_of b pos m = ap (number_of b pos) (let z : m + 0 ≡ m = omega arith in z) in omega arith
number-split b pos m (suc n) =
    let x = number_of b pos m in
    let e : number_of b pos (m + suc n) ≡ number_of b pos (suc (m + n)) = ap (number_of b pos) (let z : m + suc n ≡ suc (m + n) = omega arith in z) in
    let last : b (pos + (m + n)) ≡ b (pos + m + n) = ap b (omega arith) in
    let twice : x * 2 ^ suc n ≡ x * 2 ^ n * 2 = ap (λ (z : ℕ). x * z) (pow_more n) ∙ sym (mul_assoc x (2 ^ n) 2) in
    omega (arith, number-split b pos m n)

-- the w bits after the first m, of m + w + n
pub number-middle : (b : ℕ → ℕ) → ((i : ℕ) → b i < 2) → (pos m w n : ℕ) → number_of b pos (m + w + n) / 2 ^ n % 2 ^ w ≡ number_of b (pos + m) w
number-middle b two pos m w n =
    ap (λ (z : ℕ). z / 2 ^ n % 2 ^ w) (number-split b pos (m + w) n)
    ∙ ap (λ (z : ℕ). z % 2 ^ w) (high (number_of b pos (m + w)) n (bits-lt b two (pos + (m + w)) n) ∙ number-split b pos m w)
    ∙ low (number_of b pos m) w (bits-lt b two (pos + m) w)

-- a bit that is v more makes the number more by v at its place
pub number-one : (f g : ℕ → ℕ) (p m v : ℕ) → ((i : ℕ) → (i ≡ m → ⊥) → g (p + i) ≡ f (p + i)) → g (p + m) ≡ f (p + m) + v → (w : ℕ) → m < w
    → number_of g p w ≡ number_of f p w + v * 2 ^ (w - 1 - m)
unfolding number_of
number-one f g p m v same more zero h = absurd (omega arith)
number-one f g p m v same more (suc w) h = go (number-one f g p m v same more w) (dec_lt m w)
  where
    go : (m < w → number_of g p w ≡ number_of f p w + v * 2 ^ (w - 1 - m)) → Dec (m < w)
        → number_of g p w * 2 + g (p + w) ≡ number_of f p w * 2 + f (p + w) + v * 2 ^ (suc w - 1 - m)
    go before (yes l) =
        let k = w - 1 - m in
        let up : v * 2 ^ (suc w - 1 - m) ≡ v * 2 ^ suc k = ap (λ (z : ℕ). v * 2 ^ z) (omega arith) in
        let twice : v * 2 ^ suc k ≡ v * 2 ^ k * 2 = ap (λ (z : ℕ). v * z) (pow_more k) ∙ sym (mul_assoc v (2 ^ k) 2) in
        omega (arith, before l, same w (λ e. omega arith))
    go before (no l) =
        let e : w ≡ m = omega arith in
        let one : v * 2 ^ (suc w - 1 - m) ≡ v * 2 ^ 0 = ap (λ (z : ℕ). v * 2 ^ z) (let z : suc w - 1 - m ≡ 0 = omega arith in z) in
        let last : g (p + w) ≡ f (p + w) + v = ap (λ (z : ℕ). g (p + z)) e ∙ more ∙ ap (λ (z : ℕ). f (p + z) + v) (sym e) in
        omega (arith, number-ext g f p p w (λ i k. same i (λ d. omega arith)))

-- bit i of a number of w bits, most significant first
abbrev pub nth : ℕ → ℕ → ℕ → ℕ
nth w x i = x / 2 ^ (w - 1 - i) % 2

-- the first n of n + k bits are the number without its last k
pub first-bits : (x k n : ℕ) → number_of (nth (n + k) x) 0 n ≡ x / 2 ^ k % 2 ^ n
unfolding number_of
first-bits x k zero = omega arith
first-bits x k (suc n) =
    let y = x / 2 ^ k in
    let e₀ : number_of (nth (suc n + k) x) 0 n ≡ x / 2 ^ (k + 1) % 2 ^ n = ap (λ (w : ℕ). number_of (nth w x) 0 n) (omega arith) ∙ first-bits x (k + 1) n in
    let e₁ : y % 2 ^ (n + 1) ≡ (y / 2 ^ 1 % 2 ^ n) * 2 ^ 1 + y % 2 ^ 1 = mod-pow-add y n 1 in
    let e₂ : y / 2 ^ 1 ≡ x / 2 ^ (k + 1) = shr-shr x k 1 in
    let e₃ : nth (suc n + k) x (0 + n) ≡ y % 2 = ap (λ (w : ℕ). x / 2 ^ w % 2) (omega arith) in
    let e₄ : y / 2 ^ 1 % 2 ^ n ≡ x / 2 ^ (k + 1) % 2 ^ n = ap (λ (z : ℕ). z % 2 ^ n) e₂ in
    let e₅ : y % 2 ^ suc n ≡ y % 2 ^ (n + 1) = ap (λ (z : ℕ). y % 2 ^ z) (omega arith) in
    omega (arith, e₀, e₁, e₃, e₄, e₅)

pub all-bits : (x w : ℕ) → number_of (nth w x) 0 w ≡ x % 2 ^ w
all-bits x w =
    ap (λ (z : ℕ). number_of (nth z x) 0 w) (omega arith) ∙ first-bits x 0 w ∙ ap (λ (z : ℕ). z % 2 ^ w) (let e : x / 2 ^ 0 ≡ x = omega arith in e)

-- the m bits from bit j on, of w bits of which k are left
pub some_bits : (x w j m k : ℕ) → w ≡ j + m + k → x % 2 ^ w / 2 ^ k % 2 ^ m ≡ number_of (nth w x) j m
some_bits x w j m k e =
    ap (λ (z : ℕ). z / 2 ^ k % 2 ^ m) (sym (all-bits x w) ∙ ap (number_of (nth w x) 0) e)
    ∙ number-middle (nth w x) (λ i. omega arith) 0 j m k
    ∙ ap (λ (z : ℕ). number_of (nth w x) z m) (omega arith)

-- bit i of a number made of bits
pub bit-of-number : (b : ℕ → ℕ) → ((i : ℕ) → b i < 2) → (p n i : ℕ) → i < n → nth n (number_of b p n) i ≡ b (p + i)
unfolding number_of
bit-of-number b two p zero i h = absurd (omega arith)
bit-of-number b two p (suc n) i h = go (λ l. bit-of-number b two p n i l) (dec_lt i n)
  where
    go : (i < n → nth n (number_of b p n) i ≡ b (p + i)) → Dec (i < n) → nth (suc n) (number_of b p n * 2 + b (p + n)) i ≡ b (p + i)
    go before (yes l) =
        let m = number_of b p n * 2 + b (p + n) in
        let e₀ : m / 2 ^ 1 ≡ number_of b p n = omega (arith, two (p + n)) in
        let e₁ : m / 2 ^ (suc n - 1 - i) ≡ m / 2 ^ (1 + (n - 1 - i)) = ap (λ (z : ℕ). m / 2 ^ z) (omega arith) in
        let e₂ : m / 2 ^ 1 / 2 ^ (n - 1 - i) ≡ m / 2 ^ (1 + (n - 1 - i)) = shr-shr m 1 (n - 1 - i) in
        ap (λ (z : ℕ). z % 2) (e₁ ∙ sym e₂ ∙ ap (λ (z : ℕ). z / 2 ^ (n - 1 - i)) e₀) ∙ before l
    go before (no g) =
        let m = number_of b p n * 2 + b (p + n) in
        let z₀ : suc n - 1 - i ≡ 0 = omega arith in
        let e₁ : m / 2 ^ (suc n - 1 - i) ≡ m / 2 ^ 0 = ap (λ (z : ℕ). m / 2 ^ z) z₀ in
        let e₂ : b (p + n) ≡ b (p + i) = ap b (omega arith) in
        omega (arith, e₁, e₂, two (p + n))

-- the bits of a number cut to w bits are the number's
pub cut-bits : (x w i : ℕ) → i < w → nth w (x % 2 ^ w) i ≡ nth w x i
cut-bits x w i h =
    let k = w - 1 - i in
    let e₀ : x % 2 ^ w ≡ x % 2 ^ ((i + 1) + k) = ap (λ (z : ℕ). x % 2 ^ z) (omega arith) in
    let e₁ : x % 2 ^ ((i + 1) + k) / 2 ^ k ≡ x / 2 ^ k % 2 ^ (i + 1) = pow.field x (i + 1) k in
    let e₂ : x / 2 ^ k % 2 ^ (i + 1) % 2 ^ 1 ≡ x / 2 ^ k % 2 ^ 1 = mod-mod-pow (x / 2 ^ k) i 1 in
    let e₃ : x % 2 ^ w / 2 ^ k ≡ x / 2 ^ k % 2 ^ (i + 1) = ap (λ (z : ℕ). z / 2 ^ k) e₀ ∙ e₁ in
    omega (arith, e₂, e₃)

-- every element is a byte
abbrev pub Bytes : List ℕ → Type 0
Bytes s = (k : ℕ) → get_or s k 0 < 256

-- a byte is the number of its bits
pub byte-number : (s : List ℕ) (k : ℕ) → get_or s k 0 < 256 → get_or s k 0 ≡ number_of (bit_at s) (8 * k) 8
unfolding bit_at
byte-number s k b =
    let x = get_or s k 0 in
    let e : x ≡ number_of (nth 8 x) 0 8 = sym (all-bits x 8 ∙ mod-eq_of_lt b) in
    e ∙ number-ext (nth 8 x) (bit_at s) 0 (8 * k) 8 (λ i l.
    let e₀ : (8 * k + i) / 8 ≡ k = omega arith in
    let e₁ : (8 * k + i) % 8 ≡ 0 + i = omega arith in
    sym (ap (λ (z : ℕ). get_or s z 0 / 2 ^ (7 - (8 * k + i) % 8) % 2) e₀ ∙ ap (λ (z : ℕ). get_or s k 0 / 2 ^ (7 - z) % 2) e₁))

pub byte-bits : (s : List ℕ) (k : ℕ) → Bytes s → get_or s k 0 ≡ number_of (bit_at s) (8 * k) 8
byte-bits s k b = byte-number s k (b k)

-- one byte more
pub number-byte : (s : List ℕ) (pos n k : ℕ) → pos + n ≡ 8 * k → get_or s k 0 < 256 → number_at s pos (n + 8) ≡ number_at s pos n * 256 + get_or s k 0
unfolding number_at
number-byte s pos n k e b =
    let z : number_of (bit_at s) (pos + n) 8 ≡ number_of (bit_at s) (8 * k) 8 = ap (λ (p : ℕ). number_of (bit_at s) p 8) e in
    omega (arith, number-split (bit_at s) pos n 8, byte-number s k b)

pub number-none : (s : List ℕ) (pos : ℕ) → number_at s pos 0 ≡ 0
unfolding number_at number_of
number-none s pos = refl

-- the machine's mask of w ones
pub ones : (w : ℕ) → w < 64 → 1 * 2 ^ w % 2 ^ 64 ≡ 2 ^ w
ones w h = shl_exact 1 w 64 (omega arith) (omega arith) ∙ one-mul (2 ^ w)

-- a field is cut out of the four bytes that hold it: the last bits of what stands before its end
pub field_cut : (s : List ℕ) (pos w : ℕ) → w ≤ 24 → number_at s (8 * (pos / 8)) 32 / 2 ^ (32 - pos % 8 - w) % 2 ^ w ≡ number_at s pos w
unfolding number_at
field_cut s pos w h =
    let n = 32 - pos % 8 - w in
    let b = number_of (bit_at s) (8 * (pos / 8)) in
    ap (λ (z : ℕ). b z / 2 ^ n % 2 ^ w) (let e : 32 ≡ pos % 8 + w + n = omega arith in e)
    ∙ number-middle (bit_at s) (bit-lt s) (8 * (pos / 8)) (pos % 8) w n
    ∙ ap (λ (z : ℕ). number_of (bit_at s) z w) (omega arith)

module _ (s : List ℕ) (pos w : ℕ) where
  pub field-value : pos + w ≤ 8 * length s → field_at s pos w ≡ Some (number_at s pos w)
  unfolding field_at
  field-value h = simp (le-leb _ _ h)

  pub field-short : 8 * length s < pos + w → field_at s pos w ≡ None
  unfolding field_at
  field-short h = simp (lt-leb _ _ h)
