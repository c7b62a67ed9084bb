-- Whole files of every lawful format: what is written reads as it was, what is read writes the same bytes, and a value that writing refuses has bytes
-- that reading refuses with the same number. In order: the filling bits, the three trips.
-- Not here: formats inside a file (Law).
use mathlib.Core.Path.{◌≡◌, refl, sym, ap, ◌∙◌, subst}
use mathlib.Core.List.{List, [], ◌∷◌}
use mathlib.Core.Option.{Option, none, some}
use Prim.Native.Nat.{ℕ, ◌+◌, ◌-◌, ◌*◌, ◌/◌, ◌%◌, ◌^◌, ◌≤◌, ◌<◌}
use native.Mathlib.Decide.{dec_lt}
use native.Mathlib.Omega.{arith}
use borrow.Author.Tests.{lt-ltb, eqb-true, eq-eqb}
use lib.Dec.{ltb, eqb}
use lib.ListN.{length}
use lib.Pow.{pow_pos}
use Rattle.bits.specs.Field.{bit_at}
use Rattle.bits.specs.Packed.{widths, bit_of, packed}
use Rattle.bits.proofs.Laws.{Bytes}
use Rattle.bits.proofs.Packed.{bit_of-in, bit_of-end, nothing, packed-length, packed-bits, packed-only}
use Rattle.format.specs.Format.{ok, Format, field}
use Rattle.format.specs.File.{Fit, refused, bytes, ended, bytes_or, read_file, write_file}
use Rattle.format.proofs.Fault.{none-unless, none_first, then_ok, ok-then, tested-ok, ok-tested, BadAt, bad-then}
use Rattle.format.proofs.Holds.{Has, Holds, bits-has, has-bits, packed-holds}
use Rattle.format.proofs.Law.{Back, Lawful, lawful-field, judged-field}

zero_bits : (w i : ℕ) → i < w → bit_of ((w, 0) ∷ []) i ≡ 0
zero_bits w i h = bit_of-in w 0 [] i h ∙ nothing (w - 1 - i)

-- the bits that fill the last byte after q
abbrev fill : ℕ → ℕ
fill q = (8 - q % 8) % 8

pub zero-judged : (w n : ℕ) → (field w (eqb 0) n).judge 0 ≡ none
unfolding field
zero-judged w n = none_first _ _ (none-unless (ltb 0 (2 ^ w)) n (lt-ltb 0 (2 ^ w) (pow_pos w))) (none-unless (eqb 0 0) n refl)

fill-read : (s : List ℕ) (q : ℕ) → q + fill q ≤ 8 * length s → ((i : ℕ) → i < fill q → bit_at s (q + i) ≡ 0) → (field (fill q) (eqb 0) 3).read s q ≡ ok 0 (q + fill q)
unfolding field widths
fill-read s q h z =
    (lawful-field (fill q) (eqb 0) 3).there 0 s q (zero-judged (fill q) 3)
    record { ends = omega arith; has = bits-has s q ((fill q, 0) ∷ []) (λ i l. z i (omega arith) ∙ sym (zero_bits (fill q) i (omega arith))) }
    ∙ ap (ok 0) (omega arith)

pub record Filled (s : List ℕ) (q x r : ℕ) : Type 0 where
  pub zeros : (i : ℕ) → i < fill q → bit_at s (q + i) ≡ 0
  pub place : r ≡ q + fill q

read-fill : (s : List ℕ) (q x r : ℕ) → q ≤ 8 * length s → (field (fill q) (eqb 0) 3).read s q ≡ ok x r → Filled s q x r
unfolding field widths
read-fill s q x r h e =
    let k = (lawful-field (fill q) (eqb 0) 3).back x s q r h e in
    let x₀ : 0 ≡ x = eqb-true 0 x (judged-field (fill q) (eqb 0) 3 x k.judged).1 in
    record {
      zeros = λ i l. has-bits s q ((fill q, x) ∷ []) k.holds.has i (omega arith) ∙ ap (λ (z : ℕ). bit_of ((fill q, z) ∷ []) i) (sym x₀) ∙ zero_bits (fill q) i l;
      place = omega (arith, k.place);
    }

judged-bytes : (j : Option ℕ) (l s : List ℕ) → bytes_or j l ≡ bytes s → (j ≡ none) × (l ≡ s)
unfolding bytes_or
judged-bytes none l s e = (refl, cc)
judged-bytes (some n) l s e = absurd (let z : ◌≡◌ {A = ℕ} 0 1 = cc in omega arith)

judged-refused : (j : Option ℕ) (l : List ℕ) (n : ℕ) → bytes_or j l ≡ refused n → j ≡ some n
unfolding bytes_or
judged-refused none l n e = absurd (let z : ◌≡◌ {A = ℕ} 0 1 = cc in omega arith)
judged-refused (some m) l n e = cc

-- bytes that have the fields, and zeros from place p after them, have the fields' bits
same_bits : (s : List ℕ) (p : ℕ) (fs : List (ℕ × ℕ)) (i : ℕ) → Has s 0 fs → p ≡ 0 + widths fs → (p ≤ i → bit_at s (p + (i - p)) ≡ 0) → Dec (i < widths fs)
    → bit_at s i ≡ bit_of fs i
same_bits s p fs i h e z (yes k) = ap (bit_at s) (omega arith) ∙ has-bits s 0 fs h i k
same_bits s p fs i h e z (no k) = ap (bit_at s) (let v : i ≡ p + (i - p) = omega arith in v) ∙ z (omega arith) ∙ sym (bit_of-end fs i (omega arith))

module _ {A : Type 0} (f : Format A) (law : Lawful f) where
  -- what is written reads as it was
  pub write_read : (a : A) (s : List ℕ) → write_file f a ≡ bytes s → read_file f s ≡ ok a (8 * length s)
  unfolding write_file read_file ended
  write_read a s e =
      let fs = f.fields a in
      let (j, p) = judged-bytes (f.judge a) (packed fs) s e in
      let w = widths fs in
      let n : length s ≡ (w + 7) / 8 = ap length (sym p) ∙ packed-length fs in
      let h : Holds s 0 fs = subst (λ (x : List ℕ). Holds x 0 fs) p (packed-holds fs) in
      let r : f.read s 0 ≡ ok a w = law.there a s 0 j h ∙ ap (ok a) (omega arith) in
      let z : (i : ℕ) → i < fill w → bit_at s (w + i) ≡ 0 = λ i l. ap (λ (x : List ℕ). bit_at x (w + i)) (sym p) ∙ packed-bits fs (w + i) ∙ bit_of-end fs (w + i) (omega arith) in
      ok-then (f.read s 0) _ a w r
      ∙ ok-then ((field (fill w) (eqb 0) 3).read s w) _ 0 (w + fill w) (fill-read s w (omega arith) z)
      ∙ ok-tested (eqb (w + fill w) (8 * length s)) 3 a (w + fill w) (eq-eqb (w + fill w) (8 * length s) (omega arith))
      ∙ ap (ok a) (omega arith)

  -- what is read writes the same bytes
  pub read-write : (a : A) (s : List ℕ) (q : ℕ) → Bytes s → read_file f s ≡ ok a q → (write_file f a ≡ bytes s) × (q ≡ 8 * length s)
  unfolding write_file read_file ended bytes_or
  read-write a s q b e =
      then_ok (f.read s 0) _ a q e λ c p e₀ e₁.
      then_ok ((field (fill p) (eqb 0) 3).read s p) _ a q e₁ λ x r e₂ e₃.
      let (t₀, t₁, t₂) = tested-ok (eqb r (8 * length s)) 3 c r a q e₃ in
      let k : Back f c s 0 p = law.back c s 0 p (omega arith) e₀ in
      let g : Filled s p x r = read-fill s p x r (omega (arith, k.place, k.holds.ends)) e₂ in
      let d : r ≡ 8 * length s = eqb-true r (8 * length s) t₀ in
      let fs = f.fields c in
      let same : packed fs ≡ s =
      packed-only s fs b (λ i l. same_bits s p fs i k.holds.has k.place (λ m. g.zeros (i - p) (omega (arith, g.place, k.place))) (dec_lt i (widths fs)))
      (omega (arith, g.place, k.place)) in (
        ap (λ (y : A). bytes_or (f.judge y) (packed (f.fields y))) (sym t₁) ∙ ap (λ (j : Option ℕ). bytes_or j (packed fs)) k.judged ∙ ap bytes same,
        omega (arith, g.place),
      )

  -- what was read has no fault
  pub read-judged : (a : A) (s : List ℕ) (q : ℕ) → read_file f s ≡ ok a q → f.judge a ≡ none
  unfolding read_file ended
  read-judged a s q e =
      then_ok (f.read s 0) _ a q e λ c p e₀ e₁.
      then_ok ((field (fill p) (eqb 0) 3).read s p) _ a q e₁ λ x r e₂ e₃.
      let (t₀, t₁, t₂) = tested-ok (eqb r (8 * length s)) 3 c r a q e₃ in
      subst (λ (b : A). f.judge b ≡ none) t₁ (law.back c s 0 p (omega arith) e₀).judged

  -- what writing refuses, its bytes are refused for
  pub write-refused : (a : A) (n : ℕ) → write_file f a ≡ refused n → 0 < n → Fit (f.fields a) → BadAt (read_file f (packed (f.fields a))) n
  unfolding write_file read_file
  write-refused a n e z h =
      let s = packed (f.fields a) in
      bad-then (f.read s 0) _ n (law.refuse a n s 0 (judged-refused (f.judge a) s n e) z h (packed-holds (f.fields a)))

-- a number that writing gives is one that judging gives
pub refused-judged : {A : Type 0} (f : Format A) (a : A) (n : ℕ) → write_file f a ≡ refused n → f.judge a ≡ some n
unfolding write_file
refused-judged f a n e = judged-refused (f.judge a) (packed (f.fields a)) n e
