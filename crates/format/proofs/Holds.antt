-- What bytes hold: fields from a bit on. In order: parts of fields that fit, fields in bytes, a part of them, their bits, the packed bytes.
-- Not here: what reading makes of them (Law).
use mathlib.Core.Path.{◌≡◌, sym, ap, ◌∙◌, subst}
use mathlib.Core.List.{List, [], ◌∷◌, ◌++◌}
use Prim.Native.Nat.{ℕ, ◌+◌, ◌-◌, ◌*◌, ◌%◌, ◌^◌, ◌≤◌, ◌<◌}
use native.Mathlib.Decide.{dec_lt}
use native.Mathlib.Omega.{arith}
use lib.ListN.{length}
use Rattle.bits.specs.Field.{bit_at, number_at}
use Rattle.bits.specs.Packed.{widths, bit_of, packed}
use Rattle.bits.proofs.Laws.{bit-lt, number_is, number-ext, nth, all-bits, bit-of-number, cut-bits}
use Rattle.format.specs.File.{Fit}
use Rattle.bits.proofs.Packed.{widths-app, bit_of-in, bit_of-after, packed-length, packed-bits}

pub fit-left : (fs gs : List (ℕ × ℕ)) → Fit (fs ++ gs) → Fit fs
fit-left [] gs h = tt
fit-left ((w, x) ∷ fs) gs h = (h.0, fit-left fs gs h.1)

pub fit-right : (fs gs : List (ℕ × ℕ)) → Fit (fs ++ gs) → Fit gs
fit-right [] gs h = h
fit-right ((w, x) ∷ fs) gs h = fit-right fs gs h.1

-- the bytes s have these fields from bit pos on, each number cut to its bits
abbrev pub Has : List ℕ → ℕ → List (ℕ × ℕ) → Type 0
Has s pos [] = Unit {0}
Has s pos ((w, x) ∷ fs) = (number_at s pos w ≡ x % 2 ^ w) × Has s (pos + w) fs

-- the same, and they do not run past the end
pub record Holds (s : List ℕ) (pos : ℕ) (fs : List (ℕ × ℕ)) : Type 0 where
  pub ends : pos + widths fs ≤ 8 * length s
  pub has : Has s pos fs

pub has-app : (s : List ℕ) (pos : ℕ) (fs gs : List (ℕ × ℕ)) → Has s pos fs → Has s (pos + widths fs) gs → Has s pos (fs ++ gs)
unfolding widths
has-app s pos [] gs h k = subst (λ (p : ℕ). Has s p gs) (omega arith) k
has-app s pos ((w, x) ∷ fs) gs h k = (h.0, has-app s (pos + w) fs gs h.1 (subst (λ (p : ℕ). Has s p gs) (omega arith) k))

pub has_left : (s : List ℕ) (pos : ℕ) (fs gs : List (ℕ × ℕ)) → Has s pos (fs ++ gs) → Has s pos fs
has_left s pos [] gs h = tt
has_left s pos ((w, x) ∷ fs) gs h = (h.0, has_left s (pos + w) fs gs h.1)

pub has_right : (s : List ℕ) (pos : ℕ) (fs gs : List (ℕ × ℕ)) → Has s pos (fs ++ gs) → Has s (pos + widths fs) gs
unfolding widths
has_right s pos [] gs h = subst (λ (p : ℕ). Has s p gs) (omega arith) h
has_right s pos ((w, x) ∷ fs) gs h = subst (λ (p : ℕ). Has s p gs) (omega arith) (has_right s (pos + w) fs gs h.1)

module _ (s : List ℕ) (pos : ℕ) (fs gs : List (ℕ × ℕ)) where
  pub holds-left : Holds s pos (fs ++ gs) → Holds s pos fs
  holds-left h = record { ends = omega (arith, h.ends, widths-app fs gs); has = has_left s pos fs gs h.has }

  pub holds-right : Holds s pos (fs ++ gs) → Holds s (pos + widths fs) gs
  holds-right h = record { ends = omega (arith, h.ends, widths-app fs gs); has = has_right s pos fs gs h.has }

  pub holds-app : Holds s pos fs → Holds s (pos + widths fs) gs → Holds s pos (fs ++ gs)
  holds-app h k = record { ends = omega (arith, k.ends, widths-app fs gs); has = has-app s pos fs gs h.has k.has }

-- bytes that have the bits have the fields, and the other way round
pub bits-has : (s : List ℕ) (pos : ℕ) (fs : List (ℕ × ℕ)) → ((i : ℕ) → i < widths fs → bit_at s (pos + i) ≡ bit_of fs i) → Has s pos fs
unfolding widths
bits-has s pos [] h = tt
bits-has s pos ((w, x) ∷ fs) h = (
  number_is s pos w ∙ number-ext (bit_at s) (nth w x) pos 0 w (λ i l. h i (omega arith) ∙ bit_of-in w x fs i l ∙ ap (nth w x) (omega arith)) ∙ all-bits x w,
  bits-has s (pos + w) fs (λ i l.
      ap (bit_at s) (omega arith) ∙ h (w + i) (omega arith) ∙ bit_of-after w x fs (w + i) (omega arith) ∙ ap (bit_of fs) (omega arith)),
)

pub has-bits : (s : List ℕ) (pos : ℕ) (fs : List (ℕ × ℕ)) → Has s pos fs → (i : ℕ) → i < widths fs → bit_at s (pos + i) ≡ bit_of fs i
unfolding widths
has-bits s pos [] h i l = absurd (omega arith)
has-bits s pos ((w, x) ∷ fs) h i l = go (λ k. has-bits s (pos + w) fs h.1 (i - w) (omega arith)) (dec_lt i w)
  where
    go : (w ≤ i → bit_at s (pos + w + (i - w)) ≡ bit_of fs (i - w)) → Dec (i < w) → bit_at s (pos + i) ≡ bit_of ((w, x) ∷ fs) i
    go after (yes k) =
        sym (bit-of-number (bit_at s) (bit-lt s) pos w i k) ∙ ap (λ (z : ℕ). nth w z i) (sym (number_is s pos w) ∙ h.0) ∙ cut-bits x w i k
        ∙ sym (bit_of-in w x fs i k)
    go after (no k) =
        ap (bit_at s) (omega arith) ∙ after (omega arith) ∙ sym (bit_of-after w x fs i (omega arith))

pub packed-holds : (fs : List (ℕ × ℕ)) → Holds (packed fs) 0 fs
packed-holds fs = record { ends = omega (arith, packed-length fs); has = bits-has (packed fs) 0 fs (λ i l. packed-bits fs (0 + i) ∙ ap (bit_of fs) (omega arith)) }
