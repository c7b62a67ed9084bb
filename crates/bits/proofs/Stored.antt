-- Laws of storing fields in bytes. In order: a bit in a byte, a field bit by bit, a field byte by byte, lengths, fields one after another.
-- Not here: the bytes after all fields (Filled).
use mathlib.Core.Path.{◌≡◌, refl, sym, ap, subst, ◌∙◌}
use mathlib.Core.Bool.{cond}
use mathlib.Core.Logic.{◌⊎◌, inl, inr, ⊎_map}
use mathlib.Core.List.{List, [], ◌∷◌, ◌++◌}
use Prim.Native.Nat.{ℕ, zero, suc, ◌+◌, ◌-◌, ◌*◌, ◌/◌, ◌%◌, ◌^◌, ◌≤◌, ◌<◌}
use native.Mathlib.Decide.{dec_lt, ℕ_discrete}
use native.Mathlib.Nat.{add-mul, mul_assoc, mul_comm, mod-eq_of_lt, mod-lt}
use native.Mathlib.Numerals.{add-one}
use native.Mathlib.Omega.{arith}
use borrow.Author.Tests.{le-leb, lt-leb, eq-eqb, ne_eqb}
use lib.Dec.{eqb}
use lib.ListN.{length, get_or, set, length-set}
use lib.Pow.{pow_pos, pow-add, split, shr_lt}
use lib.Seq.{get_or-set_same, set-set}
use Rattle.bits.specs.Field.{number_of}
use Rattle.bits.specs.Packed.{widths, with_bit, put_to, put, puts}
use Rattle.bits.proofs.Laws.{pow_more, nth, some_bits}

module _ (v i b : ℕ) where
  pub with_bit-first : i % 8 ≡ 0 → with_bit v i b ≡ b * 128
  unfolding with_bit
  with_bit-first h = simp (eq-eqb (i % 8) 0 h)

  pub with_bit-later : (i % 8 ≡ 0 → ⊥) → with_bit v i b ≡ (v + b * 2 ^ (7 - i % 8)) % 256
  unfolding with_bit
  with_bit-later h = simp (ne_eqb (i % 8) 0 h)

-- the bytes l after bit i of them, b, is stored
abbrev pub stored : List ℕ → ℕ → ℕ → List ℕ
stored l i b = set l (i / 8) (with_bit (get_or l (i / 8) 0) i b)

module _ (o : List ℕ) (pos w x : ℕ) where
  pub put_to-none : put_to o pos w x 0 ≡ o
  unfolding put_to
  put_to-none = refl

  pub put_to-more : (k : ℕ) → put_to o pos w x (k + 1) ≡ stored (put_to o pos w x k) (pos + k) (nth w x k)
  unfolding put_to
  put_to-more k = rw add-one

  pub put-room : pos + w ≤ 8 * length o → put o pos w x ≡ put_to o pos w x w
  unfolding put
  put-room h = simp (le-leb _ _ h)

  pub put_full : 8 * length o < pos + w → put o pos w x ≡ o
  unfolding put
  put_full h = simp (lt-leb _ _ h)

length-put_to : (o : List ℕ) (pos w x k : ℕ) → length (put_to o pos w x k) ≡ length o
unfolding put_to
length-put_to o pos w x zero = refl
length-put_to o pos w x (suc k) = length-set (put_to o pos w x k) _ _ ∙ length-put_to o pos w x k

-- what stays of the byte of bit p where bits are stored from p on: nothing, where p is its first bit
abbrev pub kept_at : List ℕ → ℕ → ℕ
kept_at l p = cond (eqb (p % 8) 0) 0 (get_or l (p / 8) 0)

module _ (l : List ℕ) (p : ℕ) where
  kept-none : p % 8 ≡ 0 → kept_at l p ≡ 0
  kept-none h = simp (eq-eqb (p % 8) 0 h)

  kept-all : (p % 8 ≡ 0 → ⊥) → kept_at l p ≡ get_or l (p / 8) 0
  kept-all h = simp (ne_eqb (p % 8) 0 h)

  with_bit-kept : (b : ℕ) → b < 2 → with_bit (get_or l (p / 8) 0) p b ≡ (kept_at l p + b * 2 ^ (7 - p % 8)) % 256
  with_bit-kept b two = go (ℕ_discrete (p % 8) 0)
    where
      go : Dec (p % 8 ≡ 0) → with_bit (get_or l (p / 8) 0) p b ≡ (kept_at l p + b * 2 ^ (7 - p % 8)) % 256
      go (yes z) =
          let place : b * 2 ^ (7 - p % 8) ≡ b * 128 = ap (λ (r : ℕ). b * 2 ^ (7 - r)) z in
          omega (arith, with_bit-first (get_or l (p / 8) 0) p b z, kept-none z)
      go (no z) = with_bit-later (get_or l (p / 8) 0) p b z ∙ ap (λ (v : ℕ). (v + b * 2 ^ (7 - p % 8)) % 256) (sym (kept-all z))

-- a number, and then its next bit, are added to a byte
sum_more : (v n b s : ℕ) → ((v + n * 2 ^ suc s) % 256 + b * 2 ^ s) % 256 ≡ (v + (n * 2 + b) * 2 ^ s) % 256
sum_more v n b s =
    let e₀ : n * 2 ^ suc s ≡ n * (2 * 2 ^ s) = ap (λ (z : ℕ). n * z) (pow_more s ∙ mul_comm (2 ^ s) 2) in
    omega (arith, add-mul (n * 2) b (2 ^ s), mul_assoc n 2 (2 ^ s))

-- a number adds to a byte what its last m bits add, where it has no more, or where the others fall off the byte
sum-cut : (v c m s : ℕ) → (c < 2 ^ m) ⊎ (m + s ≡ 8) → (v + c * 2 ^ s) % 256 ≡ (v + c % 2 ^ m * 2 ^ s) % 256
sum-cut v c m s (inl h) = ap (λ (z : ℕ). (v + z * 2 ^ s) % 256) (sym (mod-eq_of_lt h))
sum-cut v c m s (inr e) =
    let q = c / 2 ^ m in
    let e₀ : c * 2 ^ s ≡ (q * 2 ^ m + c % 2 ^ m) * 2 ^ s = ap (λ (z : ℕ). z * 2 ^ s) (sym (split c m)) in
    let e₁ : q * (2 ^ m * 2 ^ s) ≡ q * 2 ^ 8 = ap (λ (z : ℕ). q * z) (sym (pow-add 2 m s) ∙ ap (λ (z : ℕ). 2 ^ z) e) in
    omega (arith, add-mul (q * 2 ^ m) (c % 2 ^ m) (2 ^ s), mul_assoc q (2 ^ m) (2 ^ s))

-- bits of a field that lie in one byte are stored in it by adding their number
module _ (o : List ℕ) (pos w x j : ℕ) (room : (pos + j) / 8 < length o) where
  abbrev summed : ℕ → ℕ
  summed m = (kept_at (put_to o pos w x j) (pos + j) + number_of (nth w x) j m * 2 ^ (8 - (pos + j) % 8 - m)) % 256

  chunk : (m : ℕ) → (pos + j) % 8 + suc m ≤ 8 → put_to o pos w x (j + suc m) ≡ set (put_to o pos w x j) ((pos + j) / 8) (summed (suc m))
  unfolding number_of
  chunk zero h =
      let l = put_to o pos w x j in
      let p = pos + j in
      let v = kept_at l p in
      let e₀ : nth w x j ≡ nth w x (j + 0) = ap (nth w x) (omega arith) in
      let e₁ : 7 - p % 8 ≡ 8 - p % 8 - 1 = omega arith in
      put_to-more o pos w x j
      ∙ ap (set l (p / 8)) (with_bit-kept l p (nth w x j) (omega arith))
      ∙ ap (λ (z : ℕ). set l (p / 8) ((v + z * 2 ^ (7 - p % 8)) % 256)) (let e : nth w x j ≡ number_of (nth w x) j 1 = omega arith in e)
      ∙ ap (λ (z : ℕ). set l (p / 8) ((v + number_of (nth w x) j 1 * 2 ^ z) % 256)) e₁
  chunk (suc m) h =
      let l = put_to o pos w x j in
      let p = pos + j in
      let i = p / 8 in
      let v = kept_at l p in
      let n = number_of (nth w x) j (suc m) in
      let t = set l i (summed (suc m)) in
      let q = pos + (j + suc m) in
      let s = 7 - q % 8 in
      let b = nth w x (j + suc m) in
      let e₀ : get_or t i 0 ≡ summed (suc m) = get_or-set_same l i (summed (suc m)) 0 (omega (arith, length-put_to o pos w x j)) in
      let e₁ : 8 - p % 8 - suc m ≡ suc s = omega arith in
      let e₂ : s ≡ 8 - p % 8 - suc (suc m) = omega arith in
      ap (put_to o pos w x) (let e : j + suc (suc m) ≡ j + suc m + 1 = omega arith in e)
      ∙ put_to-more o pos w x (j + suc m)
      ∙ ap (λ (z : List ℕ). stored z q b) (chunk m (omega arith))
      ∙ ap (λ (z : ℕ). set t z (with_bit (get_or t z 0) q b)) (let e : q / 8 ≡ i = omega arith in e)
      ∙ ap (set t i) (with_bit-later (get_or t i 0) q b (λ z. omega arith))
      ∙ ap (λ (z : ℕ). set t i ((z + b * 2 ^ s) % 256)) (e₀ ∙ ap (λ (z : ℕ). (v + n * 2 ^ z) % 256) e₁)
      ∙ ap (set t i) (sum_more v n b s ∙ ap (λ (z : ℕ). (v + (n * 2 + b) * 2 ^ z) % 256) e₂)
      ∙ set-set l i _ _

-- a field of w bits is stored from bit pos on: of these so many are left, and they go on in byte i, which has bits free for them
pub record Next (pos w i free left : ℕ) : Type 0 where
  pub some : left ≤ w
  pub any : 0 < free
  pub byte : free ≤ 8
  pub place : 8 * i + 8 ≡ pos + (w - left) + free
  pub new : (left ≡ w) ⊎ (free ≡ 8)

pub next-first : (pos w : ℕ) → Next pos w (pos / 8) (8 - pos % 8) w
next-first pos w = record { some = omega arith; any = omega arith; byte = omega arith; place = omega arith; new = inl refl }

first-lt : (x w m k : ℕ) → w ≡ m + k → x % 2 ^ w / 2 ^ k < 2 ^ m
first-lt x w m k e = shr_lt m k (subst (λ (z : ℕ). x % 2 ^ w < 2 ^ z) e (mod-lt x (pow_pos w)))

module _ (o : List ℕ) {pos w : ℕ} (x : ℕ) {i free left : ℕ} (room : pos + w ≤ 8 * length o) (n : Next pos w i free left) where
  abbrev before : List ℕ
  before = put_to o pos w x (w - left)

  part : (m : ℕ) → 0 < m → m ≤ left → m ≤ free
      → set before i ((kept_at before (pos + (w - left)) + x % 2 ^ w / 2 ^ (left - m) * 2 ^ (free - m)) % 256) ≡ put_to o pos w x (w - (left - m))
  part zero z l f = absurd (omega arith)
  part (suc m) z l f =
      let j = w - left in
      let p = pos + j in
      let k = left - suc m in
      let s = free - suc m in
      let y = x % 2 ^ w in
      let v = kept_at before p in
      let c = number_of (nth w x) j (suc m) in
      let e₀ : s ≡ 8 - p % 8 - suc m = omega arith in
      let e₁ : i ≡ p / 8 = omega arith in
      ap (set before i) (sum-cut v (y / 2 ^ k) (suc m) s (⊎_map (λ e. first-lt x w (suc m) k (omega arith)) (λ e. omega arith) n.new))
      ∙ ap (λ (t : ℕ). set before i ((v + t * 2 ^ s) % 256)) (some_bits x w j (suc m) k (omega arith))
      ∙ ap (λ (t : ℕ). set before i ((v + c * 2 ^ t) % 256)) e₀
      ∙ ap (λ (t : ℕ). set before t ((v + c * 2 ^ (8 - p % 8 - suc m)) % 256)) e₁
      ∙ sym (chunk o pos w x j (omega arith) m (omega arith))
      ∙ ap (put_to o pos w x) (omega arith)

  -- the bits fill the byte
  pub fill : free ≤ left → set before i ((kept_at before (pos + (w - left)) + x % 2 ^ w / 2 ^ (left - free)) % 256) ≡ put_to o pos w x (w - (left - free))
  fill l =
      let v = kept_at before (pos + (w - left)) in
      let c = x % 2 ^ w / 2 ^ (left - free) in
      let one : c * 2 ^ (free - free) ≡ c * 2 ^ 0 = ap (λ (t : ℕ). c * 2 ^ t) (let e : free - free ≡ 0 = omega arith in e) in
      ap (λ (t : ℕ). set before i ((v + t) % 256)) (let e : c ≡ c * 2 ^ (free - free) = omega arith in e) ∙ part free n.any l (omega arith)

  -- the bits end in the byte
  pub rest : 0 < left → left ≤ free → set before i ((kept_at before (pos + (w - left)) + x % 2 ^ w * 2 ^ (free - left)) % 256) ≡ put_to o pos w x w
  rest z l =
      let v = kept_at before (pos + (w - left)) in
      let y = x % 2 ^ w in
      let all : y / 2 ^ (left - left) ≡ y / 2 ^ 0 = ap (λ (t : ℕ). y / 2 ^ t) (let e : left - left ≡ 0 = omega arith in e) in
      ap (λ (t : ℕ). set before i ((v + t * 2 ^ (free - left)) % 256)) (let e : y ≡ y / 2 ^ (left - left) = omega arith in e)
      ∙ part left z (omega arith) l
      ∙ ap (put_to o pos w x) (omega arith)

-- after a byte that is filled the next one is free, and nothing of it stays
module _ {pos w i free left : ℕ} (n : Next pos w i free left) (l : free ≤ left) where
  pub next_more : Next pos w (i + 1) 8 (left - free)
  next_more = record { some = omega arith; any = omega arith; byte = omega arith; place = omega arith; new = inr refl }

  pub next-kept : (s : List ℕ) → kept_at s (pos + (w - (left - free))) ≡ 0
  next-kept s = kept-none s (pos + (w - (left - free))) (omega arith)

pub length-put : (o : List ℕ) (pos w x : ℕ) → length (put o pos w x) ≡ length o
length-put o pos w x =
    elim (dec_lt (8 * length o) (pos + w)) [
      | yes l ↦ ap length (put_full o pos w x l)
      | no g ↦ ap length (put-room o pos w x (omega arith)) ∙ length-put_to o pos w x w
    ]

pub length-puts : (o : List ℕ) (pos : ℕ) (fs : List (ℕ × ℕ)) → length (puts o pos fs) ≡ length o
unfolding puts
length-puts o pos [] = refl
length-puts o pos ((w, x) ∷ fs) = length-puts (put o pos w x) (pos + w) fs ∙ length-put o pos w x

pub puts_one : (o : List ℕ) (pos w x : ℕ) → puts o pos ((w, x) ∷ []) ≡ put o pos w x
unfolding puts
puts_one o pos w x = refl

pub puts-app : (o : List ℕ) (pos : ℕ) (fs gs : List (ℕ × ℕ)) → puts o pos (fs ++ gs) ≡ puts (puts o pos fs) (pos + widths fs) gs
unfolding puts widths
puts-app o pos [] gs = ap (λ (z : ℕ). puts o z gs) (omega arith)
puts-app o pos ((w, x) ∷ fs) gs =
    puts-app (put o pos w x) (pos + w) fs gs ∙ ap (λ (z : ℕ). puts (puts (put o pos w x) (pos + w) fs) z gs) (omega arith)
