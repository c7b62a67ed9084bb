-- Formats: one description by which a file is read, and by which what was read is judged and written.
-- A file is judged field by field in reading order, each once it is read [01:When a number is given instead 2].
-- Assumes nothing.
use Rattle.std.specs.Prelude.{Bool, true, false, ◌&&◌, cond, List, [], ◌∷◌, ◌++◌, ℕ, zero, suc, ◌+◌, ◌*◌, ◌^◌, ltb, leb, eqb, length}
use Rattle.std.proofs.Math.Option.{Option, none, some}
use Rattle.bits.specs.Field.{number_at}

-- what reading gives: a refusal's number and the bits taken until it was judged, or what was read and the place after it. Each way of building a format
-- below hands the place on from field to field, so from bit 0 on it is the count of the bits taken [02:T-03]
pub data Res (A : Type 0) : Type 0 where
  bad : ℕ → ℕ → Res A
  ok : A → ℕ → Res A

-- the bits up to the place of a result: those that were taken until it was given
unfoldable pub bits_until : {A : Type 0} → Res A → ℕ
bits_until (bad n q) = q
bits_until (ok a q) = q

-- reading from the bytes at a bit position; the first fault of a value, in reading order; its fields, each a width and a number; those of its
-- fields that stand before its first fault
pub record Format (A : Type 0) : Type 0 where
  pub read : List ℕ → ℕ → Res A
  pub judge : A → Option ℕ
  pub fields : A → List (ℕ × ℕ)
  pub kept : A → List (ℕ × ℕ)

-- the number n unless the test holds
unfoldable pub unless : Bool → ℕ → Option ℕ
unless true n = none
unless false n = some n

-- the first of two faults
unfoldable pub first : Option ℕ → Option ℕ → Option ℕ
first none g = g
first (some n) g = some n

-- the fields, or none of them after a fault
unfoldable pub unless_fault : Option ℕ → List (ℕ × ℕ) → List (ℕ × ℕ)
unless_fault none fs = fs
unless_fault (some n) fs = []

-- what was read, or the number n where a test on it fails
unfoldable pub tested : {A : Type 0} → Bool → ℕ → A → ℕ → Res A
tested true n a q = ok a q
tested false n a q = bad n q

-- what k gives of what was read, unless that was refused
unfoldable pub and_then : {A B : Type 0} → Res A → (A → ℕ → Res B) → Res B
and_then (bad n q) k = bad n q
and_then (ok a q) k = k a q

-- the next w bits, or 1 if they run past the end
unfoldable pub taken : List ℕ → ℕ → ℕ → Res ℕ
taken s pos w = cond (leb (pos + w) (8 * length s)) (ok (number_at s pos w) (pos + w)) (bad 1 (8 * length s))

-- from lo up to, not including, end
unfoldable pub within : ℕ → ℕ → ℕ → Bool
within lo end x = leb lo x && ltb x end

-- a field of w bits, refused with n unless the test holds; a number too great for w bits, which only writing can meet, is refused with n too
unfoldable pub field : ℕ → (ℕ → Bool) → ℕ → Format ℕ
field w t n =
    record {
      read = λ s pos. and_then (taken s pos w) (λ x q. tested (t x) n x q);
      judge = λ x. first (unless (ltb x (2 ^ w)) n) (unless (t x) n);
      fields = λ x. (w, x) ∷ [];
      kept = λ x. unless_fault (first (unless (ltb x (2 ^ w)) n) (unless (t x) n)) ((w, x) ∷ []);
    }

module _ {A : Type 0} where
  -- a format, refused with n once it is all read unless the test holds
  unfoldable pub check : Format A → (A → Bool) → ℕ → Format A
  check f t n =
      record {
        read = λ s pos. and_then (f.read s pos) (λ a q. tested (t a) n a q);
        judge = λ a. first (f.judge a) (unless (t a) n);
        fields = λ a. f.fields a;
        kept = λ a. f.kept a;
      }

  -- n more after those in l; each may depend on those before it
  unfoldable pub rows_read : (List A → Format A) → List ℕ → List A → ℕ → ℕ → Res (List A)
  rows_read f s l zero pos = ok l pos
  rows_read f s l (suc n) pos = and_then ((f l).read s pos) (λ a q. rows_read f s (l ++ a ∷ []) n q)

  -- the first fault of the rows after those in l; a list of another length than n is no value of the format, and gets 0
  unfoldable pub rows_judge : (List A → Format A) → List A → ℕ → List A → Option ℕ
  rows_judge f l zero [] = none
  rows_judge f l zero (a ∷ m) = some 0
  rows_judge f l (suc n) [] = some 0
  rows_judge f l (suc n) (a ∷ m) = first ((f l).judge a) (rows_judge f (l ++ a ∷ []) n m)

  -- the fields of the rows after those in l
  unfoldable pub rows_fields : (List A → Format A) → List A → List A → List (ℕ × ℕ)
  rows_fields f l [] = []
  rows_fields f l (a ∷ m) = (f l).fields a ++ rows_fields f (l ++ a ∷ []) m

  -- the fields of the rows after those in l, up to the first fault of a row
  unfoldable pub rows_kept : (List A → Format A) → List A → List A → List (ℕ × ℕ)
  rows_kept f l [] = []
  rows_kept f l (a ∷ m) = (f l).kept a ++ unless_fault ((f l).judge a) (rows_kept f (l ++ a ∷ []) m)

  -- n of a kind, one after another
  unfoldable pub rows : ℕ → (List A → Format A) → Format (List A)
  rows n f =
      record {
        read = λ s pos. rows_read f s [] n pos;
        judge = λ l. rows_judge f [] n l;
        fields = λ l. rows_fields f [] l;
        kept = λ l. rows_kept f [] l;
      }

module _ {A B : Type 0} where
  -- one, then another that may depend on it
  unfoldable pub pair : Format A → (A → Format B) → Format (A × B)
  pair f g =
      record {
        read = λ s pos. and_then (f.read s pos) (λ a q. and_then ((g a).read s q) (λ b r. ok (a, b) r));
        judge = λ p. first (f.judge p.0) ((g p.0).judge p.1);
        fields = λ p. f.fields p.0 ++ (g p.0).fields p.1;
        kept = λ p. f.kept p.0 ++ unless_fault (f.judge p.0) ((g p.0).kept p.1);
      }

  -- the same under another name
  unfoldable pub via : (B → A) → (A → B) → Format A → Format B
  via to from f =
      record {
        read = λ s pos. and_then (f.read s pos) (λ a q. ok (from a) q);
        judge = λ b. f.judge (to b);
        fields = λ b. f.fields (to b);
        kept = λ b. f.kept (to b);
      }

-- one, then w zero bits, refused with n if one is set
unfoldable pub zeros : {A : Type 0} → Format A → ℕ → ℕ → Format A
zeros f w n = via (λ a. (a, 0)) (λ p. p.0) (pair f (λ _. field w (eqb 0) n))
