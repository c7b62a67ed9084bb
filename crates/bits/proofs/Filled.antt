-- Fields stored from the first bit on. In order: the bytes after some bits, the bytes after all fields.
use mathlib.Core.Path.{◌≡◌, sym, ap, ◌∙◌}
use mathlib.Core.Bool.{cond}
use mathlib.Core.List.{List, [], ◌∷◌, ◌++◌}
use Prim.Native.Nat.{ℕ, zero, suc, ◌+◌, ◌-◌, ◌*◌, ◌/◌, ◌%◌, ◌^◌, ◌≤◌, ◌<◌}
use native.Mathlib.Decide.{dec_lt, ℕ_discrete}
use native.Mathlib.Nat.{zero-add}
use native.Mathlib.Omega.{arith}
use borrow.Author.Tests.{lt-ltb, le-ltb}
use lib.Dec.{ltb}
use lib.ListN.{length, get_or, drop, length-set, length-append, length-drop, get_or-append}
use lib.Seq.{get_or-set_same, get_or-set_other, get_or-append-add, get_or-drop, ext_get_or}
use Rattle.bits.specs.Field.{number_of}
use Rattle.bits.specs.Packed.{tab, widths, bit_of, packed, with_bit, put_to, puts}
use Rattle.bits.proofs.Laws.{number-ext, number-one, number-zeros, bits-lt, nth}
use Rattle.bits.proofs.Packed.{length-tab, get_or-tab, bit_of-lt, bit_of-in, bit_of-after, bit_of-end, packed-length, packed_byte}
use Rattle.bits.proofs.Stored.{stored, with_bit-first, with_bit-later, put-room}

-- the first n bits of b, and zeros after them
abbrev cut : (ℕ → ℕ) → ℕ → ℕ → ℕ
cut b n i = cond (ltb i n) (b i) 0

module _ (b : ℕ → ℕ) where
  cut_in : (n i : ℕ) → i < n → cut b n i ≡ b i
  cut_in n i h = simp (lt-ltb i n h)

  cut_out : (n i : ℕ) → n ≤ i → cut b n i ≡ 0
  cut_out n i h = simp (le-ltb i n h)

  cut-lt : ((i : ℕ) → b i < 2) → (n i : ℕ) → cut b n i < 2
  cut-lt two n i = elim (dec_lt i n) [ yes l ↦ omega (arith, two i, cut_in n i l) | no g ↦ omega (arith, cut_out n i (omega arith)) ]

  -- one bit more changes no other bit
  cut-more : (n i : ℕ) → (i ≡ n → ⊥) → cut b (n + 1) i ≡ cut b n i
  cut-more n i d =
      elim (dec_lt i n) [
        | yes l ↦ cut_in (n + 1) i (omega arith) ∙ sym (cut_in n i l)
        | no g ↦ cut_out (n + 1) i (omega arith) ∙ sym (cut_out n i (omega arith))
      ]

-- the bytes o after the first n bits of b are stored, from bit 0 on
front : (ℕ → ℕ) → List ℕ → ℕ → List ℕ
front b o n = tab (λ k. cond (ltb (8 * k) n) (number_of (cut b n) (8 * k) 8) (get_or o k 0)) 0 (length o)

module _ (b : ℕ → ℕ) (o : List ℕ) (n : ℕ) where
  length_front : length (front b o n) ≡ length o
  unfolding front
  length_front = length-tab _ 0 (length o)

  front-in : (k : ℕ) → k < length o → 8 * k < n → get_or (front b o n) k 0 ≡ number_of (cut b n) (8 * k) 8
  unfolding front
  front-in k h l = get_or-tab _ 0 (length o) k 0 h ∙ simp (zero-add, lt-ltb (8 * k) n l)

  front_out : (k : ℕ) → k < length o → n ≤ 8 * k → get_or (front b o n) k 0 ≡ get_or o k 0
  unfolding front
  front_out k h l = get_or-tab _ 0 (length o) k 0 h ∙ simp (zero-add, le-ltb (8 * k) n l)

module _ (b : ℕ → ℕ) (two : (i : ℕ) → b i < 2) (o : List ℕ) where
  module _ (n : ℕ) (room : n / 8 < length o) where
    -- the byte that bit n lies in, before and after it is stored
    byte_more : number_of (cut b (n + 1)) (8 * (n / 8)) 8 ≡ number_of (cut b n) (8 * (n / 8)) 8 + b n * 2 ^ (7 - n % 8)
    byte_more =
        let e : 8 * (n / 8) + n % 8 ≡ n = omega arith in
        let after : cut b (n + 1) (8 * (n / 8) + n % 8) ≡ b n = ap (cut b (n + 1)) e ∙ cut_in b (n + 1) n (omega arith) in
        let before : cut b n (8 * (n / 8) + n % 8) ≡ 0 = ap (cut b n) e ∙ cut_out b n n (omega arith) in
        number-one (cut b n) (cut b (n + 1)) (8 * (n / 8)) (n % 8) (b n) (λ i d. cut-more b n (8 * (n / 8) + i) (λ z. d (omega arith))) (omega arith) 8 (omega arith)

    byte-stored : with_bit (get_or (front b o n) (n / 8) 0) n (b n) ≡ number_of (cut b (n + 1)) (8 * (n / 8)) 8
    byte-stored = go (ℕ_discrete (n % 8) 0)
      where
        go : Dec (n % 8 ≡ 0) → with_bit (get_or (front b o n) (n / 8) 0) n (b n) ≡ number_of (cut b (n + 1)) (8 * (n / 8)) 8
        go (yes z) =
            let none : number_of (cut b n) (8 * (n / 8)) 8 ≡ 0 = number-zeros (cut b n) (8 * (n / 8)) 8 (λ i l. cut_out b n (8 * (n / 8) + i) (omega arith)) in
            let place : b n * 2 ^ (7 - n % 8) ≡ b n * 128 = ap (λ (r : ℕ). b n * 2 ^ (7 - r)) z in
            omega (arith, with_bit-first (get_or (front b o n) (n / 8) 0) n (b n) z, byte_more)
        go (no z) =
            let v = front-in b o n (n / 8) room (omega arith) in
            let fits = bits-lt (cut b (n + 1)) (cut-lt b two (n + 1)) (8 * (n / 8)) 8 in
            omega (arith, with_bit-later (get_or (front b o n) (n / 8) 0) n (b n) z, byte_more, v, fits)

    front-more : stored (front b o n) n (b n) ≡ front b o (n + 1)
    front-more =
        ext_get_or 0 _ _ (length-set (front b o n) _ _ ∙ length_front b o n ∙ sym (length_front b o (n + 1))) (λ k l.
        byte k (omega (arith, length-set (front b o n) (n / 8) (with_bit (get_or (front b o n) (n / 8) 0) n (b n)), length_front b o n)) (ℕ_discrete k (n / 8)))
      where
        byte : (k : ℕ) → k < length o → Dec (k ≡ n / 8) → get_or (stored (front b o n) n (b n)) k 0 ≡ get_or (front b o (n + 1)) k 0
        byte k h (yes e) =
            ap (λ (z : ℕ). get_or (stored (front b o n) n (b n)) z 0) e ∙ get_or-set_same (front b o n) (n / 8) _ 0 (omega (arith, length_front b o n))
            ∙ byte-stored
            ∙ sym (ap (λ (z : ℕ). get_or (front b o (n + 1)) z 0) e ∙ front-in b o (n + 1) (n / 8) room (omega arith))
        byte k h (no d) = get_or-set_other (front b o n) (n / 8) k _ 0 d ∙ other (dec_lt (8 * k) n)
          where
            other : Dec (8 * k < n) → get_or (front b o n) k 0 ≡ get_or (front b o (n + 1)) k 0
            other (yes l) =
                front-in b o n k h l ∙ number-ext (cut b n) (cut b (n + 1)) (8 * k) (8 * k) 8 (λ i m. sym (cut-more b n (8 * k + i) (λ e. d (omega arith))))
                ∙ sym (front-in b o (n + 1) k h (omega arith))
            other (no l) = front_out b o n k h (omega arith) ∙ sym (front_out b o (n + 1) k h (omega arith))

  put_to-front : (pos w x k : ℕ) → k ≤ w → pos + w ≤ 8 * length o → ((i : ℕ) → i < w → b (pos + i) ≡ nth w x i) → put_to (front b o pos) pos w x k ≡ front b o (pos + k)
  unfolding put_to
  put_to-front pos w x zero l h same = ap (front b o) (let z : pos ≡ pos + 0 = omega arith in z)
  put_to-front pos w x (suc k) l h same =
      ap (λ (s : List ℕ). stored s (pos + k) (nth w x k)) (put_to-front pos w x k (omega arith) h same)
      ∙ ap (stored (front b o (pos + k)) (pos + k)) (sym (same k (omega arith)))
      ∙ front-more (pos + k) (omega arith)
      ∙ ap (front b o) (let z : pos + k + 1 ≡ pos + suc k = omega arith in z)

  puts-front : (fs : List (ℕ × ℕ)) (pos : ℕ) → pos + widths fs ≤ 8 * length o → ((i : ℕ) → i < widths fs → b (pos + i) ≡ bit_of fs i)
      → puts (front b o pos) pos fs ≡ front b o (pos + widths fs)
  unfolding puts widths
  puts-front [] pos h same = ap (front b o) (let z : pos ≡ pos + 0 = omega arith in z)
  puts-front ((w, x) ∷ fs) pos h same =
      ap (λ (s : List ℕ). puts s (pos + w) fs)
      (put-room (front b o pos) pos w x (omega (arith, length_front b o pos))
      ∙ put_to-front pos w x w (omega arith) (omega arith) (λ i l. same i (omega arith) ∙ bit_of-in w x fs i l))
      ∙ puts-front fs (pos + w) (omega arith) (λ i l.
      ap b (omega arith) ∙ same (w + i) (omega arith) ∙ bit_of-after w x fs (w + i) (omega arith) ∙ ap (bit_of fs) (let z : w + i - w ≡ i = omega arith in z))
      ∙ ap (front b o) (let z : pos + w + widths fs ≡ pos + (w + widths fs) = omega arith in z)

  front-none : o ≡ front b o 0
  front-none = ext_get_or 0 _ _ (sym (length_front b o 0)) (λ k l. sym (front_out b o 0 k l (omega arith)))

module _ (o : List ℕ) (fs : List (ℕ × ℕ)) where
  all_in : (i : ℕ) → bit_of fs i ≡ cut (bit_of fs) (widths fs) i
  all_in i =
      elim (dec_lt i (widths fs)) [
        | yes l ↦ sym (cut_in (bit_of fs) (widths fs) i l)
        | no g ↦ bit_of-end fs i (omega arith) ∙ sym (cut_out (bit_of fs) (widths fs) i (omega arith))
      ]

  packed-front : length (packed fs) ≤ length o → packed fs ++ drop (length (packed fs)) o ≡ front (bit_of fs) o (widths fs)
  packed-front h =
      ext_get_or 0 _ _ (long ∙ sym (length_front (bit_of fs) o (widths fs))) (λ k l. byte k (omega (arith, long)) (dec_lt k (length (packed fs))))
    where
      long : length (packed fs ++ drop (length (packed fs)) o) ≡ length o
      long = simp (length-append, length-drop) (omega arith)

      byte : (k : ℕ) → k < length o → Dec (k < length (packed fs)) → get_or (packed fs ++ drop (length (packed fs)) o) k 0 ≡ get_or (front (bit_of fs) o (widths fs)) k 0
      byte k r (yes l) =
          get_or-append (packed fs) _ 0 k l
          ∙ packed_byte fs k (omega (arith, packed-length fs))
          ∙ number-ext (bit_of fs) (cut (bit_of fs) (widths fs)) (8 * k) (8 * k) 8 (λ i m. all_in (8 * k + i))
          ∙ sym (front-in (bit_of fs) o (widths fs) k r (omega (arith, packed-length fs)))
      byte k r (no g) =
          let n = length (packed fs) in
          let e : n + (k - n) ≡ k = omega arith in
          ap (λ (m : ℕ). get_or (packed fs ++ drop n o) m 0) (sym e)
          ∙ get_or-append-add (packed fs) (drop n o) (k - n) 0
          ∙ get_or-drop n o (k - n) 0
          ∙ ap (λ (m : ℕ). get_or o m 0) e
          ∙ sym (front_out (bit_of fs) o (widths fs) k r (omega (arith, packed-length fs)))

-- fields stored from the first bit on are the packed fields, and the bytes after them stay
pub puts-packed : (o : List ℕ) (fs : List (ℕ × ℕ)) → length (packed fs) ≤ length o → puts o 0 fs ≡ packed fs ++ drop (length (packed fs)) o
puts-packed o fs h =
    let b = bit_of fs in
    ap (λ (s : List ℕ). puts s 0 fs) (front-none b (bit_of-lt fs) o)
    ∙ puts-front b (bit_of-lt fs) o fs 0 (omega (arith, packed-length fs)) (λ i l. ap b (omega arith))
    ∙ ap (front b o) (let z : 0 + widths fs ≡ widths fs = omega arith in z)
    ∙ sym (packed-front o fs h)
