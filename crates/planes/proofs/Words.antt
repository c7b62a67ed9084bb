-- Laws of words of lanes. In order: words by what is said of their lanes; a lane's number by its planes; words by what is said of
-- these numbers; the eight planes.
use mathlib.Core.Path.{◌≡◌, refl, sym, ap, ◌∙◌, subst}
use mathlib.Core.Bool.{Bool, true, false, not, cond}
use mathlib.Core.List.{List, [], ◌∷◌}
use Prim.Native.Nat.{ℕ, zero, suc, ◌+◌, ◌*◌, ◌/◌, ◌%◌, ◌^◌, ◌<◌}
use native.Mathlib.Numerals.{unary_clauses}
use native.Mathlib.Omega.{arith}
use borrow.Author.Tests.{not-false}
use lib.Dec.{T, eqb, eqb→eq}
use lib.ListN.{length, get_or}
use Rattle.lanes.specs.Lanes.{bit_of, some_below}
use Rattle.lanes.proofs.Laws.{some-none}
use Rattle.lanes.proofs.Bits.{bit-zero, bit-ones}
use Rattle.planes.specs.Word.{Word, lane_number, Told, Planes}
use Rattle.planes.proofs.Numbers.{bit-first, bit-later}

pub word-as : (f g : ℕ → Bool) (w x : ℕ) → w < 4 → Word f w x → ((v : ℕ) → v < 256 → f v ≡ g v) → Word g w x
word-as f g w x h a e = record { each = λ j l. a.each j l ∙ e (64 * w + j) (omega arith) }

pub word_none : (w : ℕ) → Word (λ v. false) w 0
word_none w = record { each = λ j h. bit-zero j }

pub word-all : (w : ℕ) → Word (λ v. true) w 18446744073709551615
word-all w = record { each = λ j h. bit-ones j h }

-- a bit of a lane's number is that of its plane
plane-bit : (t : List ℕ) (j k : ℕ) → bit_of (get_or t k 0) j ≡ bit_of (lane_number t j) k
unfolding lane_number
plane-bit [] j k = bit-zero j ∙ sym (bit-zero k)
plane-bit (x ∷ t) j zero = sym (bit-first (lane_number t j) (bit_of x j))
plane-bit (x ∷ t) j (suc k) = plane-bit t j k ∙ sym (bit-later (lane_number t j) (bit_of x j) k)

-- a lane's number has no more bits than there are planes
lane-lt : (t : List ℕ) (j : ℕ) → lane_number t j < 2 ^ length t
unfolding lane_number
lane-lt [] j = omega arith
lane-lt (x ∷ t) j = less (lane_number t j) (length t) (bit_of x j) (lane-lt t j)
  where
    less : (n k : ℕ) (b : Bool) → n < 2 ^ k → 2 * n + cond b 1 0 < 2 ^ suc k
    less n k true h = simp unary_clauses (omega arith)
    less n k false h = simp unary_clauses (omega arith)

-- eight planes are of bytes
lane_byte : (t : List ℕ) (j : ℕ) → length t ≡ 8 → lane_number t j < 256
lane_byte t j e = subst (λ (n : ℕ). lane_number t j < 2 ^ n) e (lane-lt t j)

module _ (t : List ℕ) where
  pub told-as : (f g : ℕ → Bool) (x : ℕ) → Told t f x → ((v : ℕ) → f v ≡ g v) → Told t g x
  told-as f g x a e = record { each = λ j h. a.each j h ∙ e (lane_number t j) }

  pub told-byte : (f g : ℕ → Bool) (x : ℕ) → length t ≡ 8 → Told t f x → ((v : ℕ) → v < 256 → f v ≡ g v) → Told t g x
  told-byte f g x l a e = record { each = λ j h. a.each j h ∙ e (lane_number t j) (lane_byte t j l) }

  pub told_none : Told t (λ v. false) 0
  told_none = record { each = λ j h. bit-zero j }

  pub told-all : Told t (λ v. true) 18446744073709551615
  told-all = record { each = λ j h. bit-ones j h }

  -- all lanes or none
  pub told-whole : (b : Bool) (x : ℕ) → ((w : ℕ) → Word (λ v. b) w x) → Told t (λ v. b) x
  told-whole b x e = record { each = λ j h. (e 0).each j h }

  pub told-plane : (k x : ℕ) → x ≡ get_or t k 0 → Told t (λ v. bit_of v k) x
  told-plane k x e = record { each = λ j h. ap (λ (z : ℕ). bit_of z j) e ∙ plane-bit t j k }

  -- by the planes of a word, the lanes are those of the word
  pub told-word : (f : ℕ → Bool) (w x : ℕ) → Planes w t → Told t f x → Word f w x
  told-word f w x p a = record { each = λ j h. a.each j h ∙ ap f (p.each j h) }

-- the planes of word w, where all lanes or none have bit 0 and bit 1 of w
unfoldable planes_by : Bool → Bool → List ℕ
planes_by a b =
    12297829382473034410 ∷ 14757395258967641292 ∷ 17361641481138401520 ∷ 18374966859414961920 ∷ 18446462603027742720 ∷ 18446744069414584320
    ∷ cond a 18446744073709551615 0 ∷ cond b 18446744073709551615 0 ∷ []

same : (a b : ℕ) → not (eqb a b) ≡ false → a ≡ b
same a b h = eqb→eq a b (subst T (sym (not-false (eqb a b) h)) tt)

-- computed: the lanes of four words
planes-checked : some_below (λ w. some_below (λ j. not (eqb (lane_number (planes_by (eqb (w % 2) 1) (eqb (w / 2) 1)) j) (64 * w + j))) 64) 4 ≡ false
unfolding some_below bit_of lane_number planes_by
planes-checked = refl

planes-are : (w j : ℕ) → w < 4 → j < 64 → lane_number (planes_by (eqb (w % 2) 1) (eqb (w / 2) 1)) j ≡ 64 * w + j
planes-are w j hw hj =
    same _ _
    (some-none (λ j. not (eqb (lane_number (planes_by (eqb (w % 2) 1) (eqb (w / 2) 1)) j) (64 * w + j))) 64
    (some-none (λ w. some_below (λ j. not (eqb (lane_number (planes_by (eqb (w % 2) 1) (eqb (w / 2) 1)) j) (64 * w + j))) 64) 4 planes-checked w hw) j hj)

-- all lanes or none, by their bits
bit-whole : (b : Bool) (j : ℕ) → j < 64 → bit_of (cond b 18446744073709551615 0) j ≡ b
bit-whole true j h = bit-ones j h
bit-whole false j h = bit-zero j

-- the planes as they are made
pub planes-whole : (w a b : ℕ) → w < 4 → ((u : ℕ) → Word (λ v. eqb (w % 2) 1) u a) → ((u : ℕ) → Word (λ v. eqb (w / 2) 1) u b)
    → Planes w (12297829382473034410 ∷ 14757395258967641292 ∷ 17361641481138401520 ∷ 18374966859414961920 ∷ 18446462603027742720 ∷ 18446744069414584320 ∷ a ∷ b ∷ [])
unfolding lane_number planes_by
planes-whole w a b h A B = record { each = λ j l. go j l ∙ planes-are w j h l }
  where
    p : Bool
    p = eqb (w % 2) 1

    q : Bool
    q = eqb (w / 2) 1

    t : ℕ → ℕ → List ℕ
    t x y = 12297829382473034410 ∷ 14757395258967641292 ∷ 17361641481138401520 ∷ 18374966859414961920 ∷ 18446462603027742720 ∷ 18446744069414584320 ∷ x ∷ y ∷ []

    go : (j : ℕ) → j < 64 → lane_number (t a b) j ≡ lane_number (planes_by p q) j
    go j l = simp ((A w).each j l, (B w).each j l, bit-whole p j l, bit-whole q j l)
