-- Laws of fields side by side and of the bytes that hold them. In order: tables, widths, bits of fields, packed bytes.
-- Not here: storing fields (Stored).
use mathlib.Core.Path.{◌≡◌, refl, sym, ap, ◌∙◌}
use mathlib.Core.Bool.{Bool, true, false, cond}
use mathlib.Core.List.{List, [], ◌∷◌, ◌++◌}
use Prim.Native.Nat.{ℕ, zero, suc, ◌+◌, ◌-◌, ◌*◌, ◌/◌, ◌%◌, ◌^◌, ◌≤◌, ◌<◌}
use native.Mathlib.Decide.{dec_lt}
use native.Mathlib.Numerals.{add-one}
use native.Mathlib.Omega.{arith}
use borrow.Author.Tests.{lt-ltb, le-ltb}
use lib.Dec.{ltb}
use lib.ListN.{length, get_or, get_or-eq_default}
use lib.Pow.{shr_le}
use lib.Seq.{ext_get_or}
use Rattle.bits.specs.Field.{bit_at, number_of}
use Rattle.bits.specs.Packed.{tab, widths, bit_of, packed}
use Rattle.bits.proofs.Laws.{number-ext, bit-of-number, nth, Bytes, byte-bits}

module _ {A : Type 0} where
  pub length-tab : (f : ℕ → A) (k n : ℕ) → length (tab f k n) ≡ n
  unfolding tab
  length-tab f k zero = refl
  length-tab f k (suc n) = ap suc (length-tab f (suc k) n)

  pub get_or-tab : (f : ℕ → A) (k n i : ℕ) (d : A) → i < n → get_or (tab f k n) i d ≡ f (k + i)
  unfolding tab
  get_or-tab f k zero i d h = absurd (omega arith)
  get_or-tab f k (suc n) zero d h = ap f (omega arith)
  get_or-tab f k (suc n) (suc i) d h = get_or-tab f (suc k) n i d (omega arith) ∙ ap f (omega arith)

  pub tab-ext : (f g : ℕ → A) (k n : ℕ) → ((i : ℕ) → i < k + n → f i ≡ g i) → tab f k n ≡ tab g k n
  unfolding tab
  tab-ext f g k zero h = refl
  tab-ext f g k (suc n) h =
      ap (λ (x : A). x ∷ tab f (suc k) n) (h k (omega arith)) ∙ ap (λ (l : List A). g k ∷ l) (tab-ext f g (suc k) n (λ i l. h i (omega arith)))

  tab-snoc : (f : ℕ → A) (k n : ℕ) → tab f k (suc n) ≡ tab f k n ++ (f (k + n) ∷ [])
  unfolding tab
  tab-snoc f k zero = ap (λ (i : ℕ). f i ∷ []) (omega arith)
  tab-snoc f k (suc n) = ap (λ (l : List A). f k ∷ l) (tab-snoc f (suc k) n ∙ ap (λ (i : ℕ). tab f (suc k) n ++ (f i ∷ [])) (omega arith))

  pub tab-zero : (f : ℕ → A) (k : ℕ) → tab f k 0 ≡ []
  unfolding tab
  tab-zero f k = refl

  pub tab-first : (f : ℕ → A) (k n : ℕ) → tab f k (suc n) ≡ f k ∷ tab f (suc k) n
  unfolding tab
  tab-first f k n = refl

  pub tab-more : (f : ℕ → A) (n : ℕ) → tab f 0 (n + 1) ≡ tab f 0 n ++ (f n ∷ [])
  tab-more f n = ap (tab f 0) (add-one n) ∙ tab-snoc f 0 n ∙ ap (λ (i : ℕ). tab f 0 n ++ (f i ∷ [])) (omega arith)

pub widths-app : (fs gs : List (ℕ × ℕ)) → widths (fs ++ gs) ≡ widths fs + widths gs
unfolding widths
widths-app [] gs = omega arith
widths-app ((w, x) ∷ fs) gs = omega (arith, widths-app fs gs)

pub bit_of-lt : (fs : List (ℕ × ℕ)) (i : ℕ) → bit_of fs i < 2
unfolding bit_of
bit_of-lt [] i = omega arith
bit_of-lt ((w, x) ∷ fs) i = one (ltb i w) (x / 2 ^ (w - 1 - i) % 2) (bit_of fs (i - w)) (omega arith) (bit_of-lt fs (i - w))
  where
    one : (b : Bool) (m n : ℕ) → m < 2 → n < 2 → cond b m n < 2
    one true m n h k = h
    one false m n h k = k

pub bit_of-in : (w x : ℕ) (fs : List (ℕ × ℕ)) (i : ℕ) → i < w → bit_of ((w, x) ∷ fs) i ≡ nth w x i
unfolding bit_of
bit_of-in w x fs i h = simp (lt-ltb i w h)

pub bit_of-after : (w x : ℕ) (fs : List (ℕ × ℕ)) (i : ℕ) → w ≤ i → bit_of ((w, x) ∷ fs) i ≡ bit_of fs (i - w)
unfolding bit_of
bit_of-after w x fs i h = simp (le-ltb i w h)

bit_of-none : (i : ℕ) → bit_of [] i ≡ 0
unfolding bit_of
bit_of-none i = refl

pub bit_of-end : (fs : List (ℕ × ℕ)) (i : ℕ) → widths fs ≤ i → bit_of fs i ≡ 0
unfolding widths
bit_of-end [] i h = bit_of-none i
bit_of-end ((w, x) ∷ fs) i h = bit_of-after w x fs i (omega arith) ∙ bit_of-end fs (i - w) (omega arith)

pub bit_of-app : (fs gs : List (ℕ × ℕ)) (i : ℕ) → i < widths fs → bit_of (fs ++ gs) i ≡ bit_of fs i
unfolding widths
bit_of-app [] gs i h = absurd (omega arith)
bit_of-app ((w, x) ∷ fs) gs i h = go (λ l. bit_of-app fs gs (i - w) (omega arith)) (dec_lt i w)
  where
    go : (w ≤ i → bit_of (fs ++ gs) (i - w) ≡ bit_of fs (i - w)) → Dec (i < w) → bit_of ((w, x) ∷ (fs ++ gs)) i ≡ bit_of ((w, x) ∷ fs) i
    go rest (yes l) = bit_of-in w x (fs ++ gs) i l ∙ sym (bit_of-in w x fs i l)
    go rest (no l) = bit_of-after w x (fs ++ gs) i (omega arith) ∙ rest (omega arith) ∙ sym (bit_of-after w x fs i (omega arith))

pub bit_of-skip : (fs gs : List (ℕ × ℕ)) (i : ℕ) → bit_of (fs ++ gs) (widths fs + i) ≡ bit_of gs i
unfolding widths
bit_of-skip [] gs i = ap (bit_of gs) (omega arith)
bit_of-skip ((w, x) ∷ fs) gs i =
    bit_of-after w x (fs ++ gs) (w + widths fs + i) (omega arith) ∙ ap (bit_of (fs ++ gs)) (let z : w + widths fs + i - w ≡ widths fs + i = omega arith in z)
    ∙ bit_of-skip fs gs i

pub nothing : (k : ℕ) → 0 / 2 ^ k % 2 ≡ 0
nothing k = omega (arith, shr_le 0 k)

pub packed-length : (fs : List (ℕ × ℕ)) → length (packed fs) ≡ (widths fs + 7) / 8
unfolding packed
packed-length fs = length-tab _ 0 ((widths fs + 7) / 8)

pub packed_byte : (fs : List (ℕ × ℕ)) (k : ℕ) → k < (widths fs + 7) / 8 → get_or (packed fs) k 0 ≡ number_of (bit_of fs) (8 * k) 8
unfolding packed
packed_byte fs k h = get_or-tab _ 0 ((widths fs + 7) / 8) k 0 h ∙ ap (λ (z : ℕ). number_of (bit_of fs) (8 * z) 8) (omega arith)

pub packed-bits : (fs : List (ℕ × ℕ)) (i : ℕ) → bit_at (packed fs) i ≡ bit_of fs i
unfolding bit_at
packed-bits fs i = go (dec_lt (i / 8) ((widths fs + 7) / 8))
  where
    go : Dec (i / 8 < (widths fs + 7) / 8) → get_or (packed fs) (i / 8) 0 / 2 ^ (7 - i % 8) % 2 ≡ bit_of fs i
    go (yes l) =
        ap (λ (z : ℕ). z / 2 ^ (7 - i % 8) % 2) (packed_byte fs (i / 8) l) ∙ bit-of-number (bit_of fs) (bit_of-lt fs) (8 * (i / 8)) 8 (i % 8) (omega arith)
        ∙ ap (bit_of fs) (omega arith)
    go (no g) =
        let e : get_or (packed fs) (i / 8) 0 ≡ 0 = get_or-eq_default (packed fs) 0 (omega (arith, packed-length fs)) in
        ap (λ (z : ℕ). z / 2 ^ (7 - i % 8) % 2) e ∙ nothing (7 - i % 8) ∙ sym (bit_of-end fs i (omega arith))

-- bytes that have the fields' bits, and zeros after them, are the packed fields
pub packed-only : (s : List ℕ) (fs : List (ℕ × ℕ)) → Bytes s → ((i : ℕ) → i < 8 * length s → bit_at s i ≡ bit_of fs i) → length s ≡ (widths fs + 7) / 8 → packed fs ≡ s
packed-only s fs b same n =
    ext_get_or 0 (packed fs) s (packed-length fs ∙ sym n) (λ k l.
    packed_byte fs k (omega (arith, packed-length fs))
    ∙ number-ext (bit_of fs) (bit_at s) (8 * k) (8 * k) 8 (λ i m. sym (same (8 * k + i) (omega (arith, packed-length fs))))
    ∙ sym (byte-bits s k b))
