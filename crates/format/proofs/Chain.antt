-- Laws for functions that read a format part by part, each lent the same reader. In order: results one after another, what was read under another view,
-- each way of building a format, a whole file.
-- Not here: storing (Store).
use mathlib.Core.Path.{◌≡◌, refl, sym, ap, ◌∙◌}
use mathlib.Core.Bool.{Bool, true, false, ◌&&◌}
use mathlib.Core.List.{List}
use Prim.Native.Nat.{ℕ, zero, suc, ◌+◌, ◌-◌, ◌*◌, ◌%◌, ◌≤◌, ◌<◌}
use native.Mathlib.Omega.{arith}
use borrow.Author.Tests.{le-leb, le-ltb, leb-true, ltb-true, ne_eqb}
use lib.Dec.{eqb, leb, ltb}
use lib.ListN.{length}
use Rattle.std.specs.Prelude.{Result, Ok, Err, IsErrAnd}
use Rattle.std.proofs.lemmas.Result.{err_from_is_err_and}
use Rattle.std.specs.Ordering.{nat_cmp, is_le, is_lt}
use Rattle.std.proofs.lemmas.Bool.Decides.{nat_tests}
use Rattle.refusal.specs.declared.Refusal.{Refusal}
use Rattle.refusal.specs.Number.{number_of}
use Rattle.format.specs.Format.{Res, ok, bad, Format, tested, and_then, taken, field, check, pair, via, zeros, within}
use Rattle.format.specs.File.{ended, read_file}
use Rattle.format.specs.Reads.{any, res_of, ReadsBy, Reads}
use Rattle.format.specs.declared.file_reader.FileReader.{FileReader}

-- only 0 is from 0 up to, not including, 1
pub within-zero : (x : ℕ) → within 0 1 x ≡ eqb 0 x
unfolding within
within-zero zero = refl
within-zero (suc x) = simp (le-leb 0 (suc x) (omega arith), le-ltb (suc x) 1 (omega arith), ne_eqb 0 (suc x) (λ e. omega arith))

pub within-true : (lo end x : ℕ) → within lo end x ≡ true → (lo ≤ x) × (x < end)
unfolding within
within-true lo end x e = let (a, b) = both (leb lo x) (ltb x end) e in (leb-true lo x a, ltb-true x end b)
  where
    both : (a b : Bool) → (a && b) ≡ true → (a ≡ true) × (b ≡ true)
    both true b e = (refl, e)
    both false b e = absurd (let z : ◌≡◌ {A = ℕ} 0 1 = cc in omega arith)

-- the test of a range is that of a field
pub within-range : (lo end x : ℕ) → (is_le (nat_cmp lo x) && is_lt (nat_cmp x end)) ≡ within lo end x
unfolding within
within-range lo end x = grind (arith, nat_tests)

-- the view of a result that is a refusal
abbrev pub no_view : {A : Type 0} → ⊥ → A
no_view x = absurd x

-- a refusal ends all that would come
stop : {A B : Type 0} {x : Res A} (n q : ℕ) (k : A → ℕ → Res B) → bad n q ≡ x → bad n q ≡ and_then x k
unfolding and_then
stop n q k e = ap (λ (y : Res _). and_then y k) e

-- what comes next goes on from what was read
go_on : {A B : Type 0} {x : Res A} (a : A) (q : ℕ) (k : A → ℕ → Res B) → ok a q ≡ x → k a q ≡ and_then x k
unfolding and_then
go_on a q k e = ap (λ (y : Res _). and_then y k) e

res-maps : {A C D : Type 0} (to : A → C) (w : D → A) (o : Result D Refusal) (q : ℕ) → res_of (λ d. to (w d)) o q ≡ and_then (res_of w o q) (λ a p. ok (to a) p)
unfolding and_then
res-maps to w (Ok d) q = refl
res-maps to w (Err e) q = refl

-- what was read, under another view and another bound

module _ {A B D : Type 0} {f : Format A} {m : ℕ} {v : B → A} {w : D → A} {r r' : FileReader} where
  pub shown : (b : B) {d : D} (most : ℕ) → Reads f m w r r' (Ok d) → w d ≡ v b → m ≤ most → Reads f most v r r' (Ok b)
  shown b most h e k = record { answer = ap (λ (a : A). ok a r'.bits.at) (sym e) ∙ h.answer; source = h.source; near = omega (arith, h.near) }

  pub refuses : {e : Refusal} (most : ℕ) → Reads f m w r r' (Err e) → m ≤ most → Reads f most v r r' (Err e)
  refuses most h k = record { answer = h.answer; source = h.source; near = omega (arith, h.near) }

  -- a refusal that was passed on
  pub refused : {e : Refusal} (most : ℕ) (o : Result B Refusal) → IsErrAnd o (λ y. y ≡ e) → Reads f m w r r' (Err e) → m ≤ most → Reads f most v r r' o
  refused {e} most o p h k =
      let q = err_from_is_err_and o p in rw (q.1, q.2) (refuses most h k)

-- each way of building a format

untested : (r : Res ℕ) → and_then r (λ x q. tested true 1 x q) ≡ r
unfolding and_then tested
untested (bad n q) = refl
untested (ok x q) = refl

pub any-is : (w : ℕ) (s : List ℕ) (q : ℕ) → (any w).read s q ≡ taken s q w
unfolding any field
any-is w s q = untested (taken s q w)

-- a field that is refused by what has a number: its test doesn't hold
module _ {E : Type 0} (number : E → ℕ) (w : ℕ) (t : ℕ → Bool) {m : ℕ} {v : ℕ → ℕ} {r r' : FileReader} where
  pub numbered-fails : {x : ℕ} (d : E) → Reads (any w) m v r r' (Ok x) → t (v x) ≡ false → ReadsBy number (field w t (number d)) m v r r' (Err d)
  unfolding field tested
  numbered-fails {x} d h e =
      record {
        answer =
            ap (λ (b : Bool). tested b (number d) (v x) r'.bits.at) (sym e)
            ∙ go_on (v x) r'.bits.at (λ x q. tested (t x) (number d) x q) (h.answer ∙ any-is w r.bits.src.now r.bits.at);
        source = h.source;
        near = h.near;
      }

module _ (w : ℕ) (t : ℕ → Bool) {m : ℕ} {v : ℕ → ℕ} {r r' : FileReader} where
  pub field-stops : {e : Refusal} (n : ℕ) → Reads (any w) m v r r' (Err e) → Reads (field w t n) m no_view r r' (Err e)
  unfolding field
  field-stops {e} n h =
      record { answer = stop (number_of e) r'.bits.at (λ x q. tested (t x) n x q) (h.answer ∙ any-is w r.bits.src.now r.bits.at); source = h.source; near = h.near }

  pub field-holds : {x : ℕ} (n : ℕ) → Reads (any w) m v r r' (Ok x) → t (v x) ≡ true → Reads (field w t n) m v r r' (Ok x)
  unfolding field tested
  field-holds {x} n h e =
      record {
        answer =
            ap (λ (b : Bool). tested b n (v x) r'.bits.at) (sym e)
            ∙ go_on (v x) r'.bits.at (λ x q. tested (t x) n x q) (h.answer ∙ any-is w r.bits.src.now r.bits.at);
        source = h.source;
        near = h.near;
      }

  pub field-fails : {x : ℕ} (e : Refusal) → Reads (any w) m v r r' (Ok x) → t (v x) ≡ false → Reads (field w t (number_of e)) m no_view r r' (Err e)
  field-fails e h g = let s = numbered-fails number_of w t e h g in record { answer = s.answer; source = s.source; near = s.near }

-- the same where the bits run past the end, and where the test holds
module _ {E : Type 0} (number : E → ℕ) (w : ℕ) (t : ℕ → Bool) {m : ℕ} {v : ℕ → ℕ} {r r' : FileReader} where
  pub numbered-stops : {e : Refusal} (n : ℕ) (d : E) → number d ≡ number_of e → Reads (any w) m v r r' (Err e) → ReadsBy number (field w t n) m v r r' (Err d)
  numbered-stops n d k h =
      let s = field-stops w t n h in record { answer = ap (λ (i : ℕ). bad i r'.bits.at) k ∙ s.answer; source = s.source; near = s.near }

  pub numbered-holds : {x : ℕ} (n : ℕ) → Reads (any w) m v r r' (Ok x) → t (v x) ≡ true → ReadsBy number (field w t n) m v r r' (Ok x)
  numbered-holds n h e = let s = field-holds w t n h e in record { answer = s.answer; source = s.source; near = s.near }

module _ {A B : Type 0} (f : Format A) (t : A → Bool) {m : ℕ} {v : B → A} {r r' : FileReader} where
  pub check-stops : {e : Refusal} (n : ℕ) → Reads f m v r r' (Err e) → Reads (check f t n) m no_view r r' (Err e)
  unfolding check
  check-stops {e} n h = record { answer = stop (number_of e) r'.bits.at (λ x q. tested (t x) n x q) h.answer; source = h.source; near = h.near }

  pub check-holds : {b : B} (n : ℕ) → Reads f m v r r' (Ok b) → t (v b) ≡ true → Reads (check f t n) m v r r' (Ok b)
  unfolding check tested
  check-holds {b} n h e =
      record {
        answer = ap (λ (x : Bool). tested x n (v b) r'.bits.at) (sym e) ∙ go_on (v b) r'.bits.at (λ x q. tested (t x) n x q) h.answer;
        source = h.source;
        near = h.near;
      }

  pub check-fails : {b : B} (e : Refusal) → Reads f m v r r' (Ok b) → t (v b) ≡ false → Reads (check f t (number_of e)) m no_view r r' (Err e)
  unfolding check tested
  check-fails {b} e h g =
      record {
        answer = ap (λ (x : Bool). tested x (number_of e) (v b) r'.bits.at) (sym g) ∙ go_on (v b) r'.bits.at (λ x q. tested (t x) (number_of e) x q) h.answer;
        source = h.source;
        near = h.near;
      }

module _ {A B C : Type 0} (f : Format A) (g : A → Format C) {m : ℕ} {v : B → A} {r r' : FileReader} where
  pub pair-stops : {e : Refusal} → Reads f m v r r' (Err e) → Reads (pair f g) m no_view r r' (Err e)
  unfolding pair
  pair-stops {e} h =
      record {
        answer = stop (number_of e) r'.bits.at (λ a q. and_then ((g a).read r.bits.src.now q) (λ c p. ok (a, c) p)) h.answer;
        source = h.source;
        near = h.near;
      }

  pub pair-goes : {D : Type 0} {m' : ℕ} {r'' : FileReader} {w : D → C} {b : B} {o : Result D Refusal} → Reads f m v r r' (Ok b) → Reads (g (v b)) m' w r' r'' o
      → Reads (pair f g) (m + m') (λ d. (v b, w d)) r r'' o
  unfolding pair
  pair-goes {r''} {w} {b} {o} h k =
      record {
        answer =
            res-maps (λ c. (v b, c)) w o r''.bits.at
            ∙ ap (λ (x : Res C). and_then x (λ c p. ok (v b, c) p)) (k.answer ∙ ap (λ (s : _). (g (v b)).read s.now r'.bits.at) h.source)
            ∙ go_on (v b) r'.bits.at (λ a q. and_then ((g a).read r.bits.src.now q) (λ c p. ok (a, c) p)) h.answer;
        source = k.source ∙ h.source;
        near = omega (arith, k.near, h.near);
      }

module _ {A C D : Type 0} (to : C → A) (back : A → C) (f : Format A) {m : ℕ} {w : D → A} {r r' : FileReader} where
  pub via-reads : {o : Result D Refusal} → Reads f m w r r' o → Reads (via to back f) m (λ d. back (w d)) r r' o
  unfolding via
  via-reads {o} h =
      record { answer = res-maps back w o r'.bits.at ∙ ap (λ (x : Res A). and_then x (λ a p. ok (back a) p)) h.answer; source = h.source; near = h.near }

then_same : (x : Res ℕ) (k l : ℕ → ℕ → Res ℕ) → ((a q : ℕ) → k a q ≡ l a q) → and_then x k ≡ and_then x l
unfolding and_then
then_same (bad n q) k l h = refl
then_same (ok a q) k l h = h a q

field-same : (w n : ℕ) (s : List ℕ) (q : ℕ) → (field w (within 0 1) n).read s q ≡ (field w (eqb 0) n).read s q
unfolding field
field-same w n s q = then_same (taken s q w) _ _ (λ x p. ap (λ (b : Bool). tested b n x p) (within-zero x))

zero-bits : {D : Type 0} {u : D → ℕ} {m : ℕ} {r r' : FileReader} {o : Result D Refusal} (w n : ℕ) → Reads (field w (within 0 1) n) m u r r' o → Reads (field w (eqb 0) n) m u r r' o
zero-bits {r} w n h = record { answer = h.answer ∙ field-same w n r.bits.src.now r.bits.at; source = h.source; near = h.near }

module _ {A B : Type 0} (f : Format A) (w n : ℕ) {m : ℕ} {v : B → A} {r r' : FileReader} where
  pub zeros-stops : {e : Refusal} → Reads f m v r r' (Err e) → Reads (zeros f w n) m no_view r r' (Err e)
  unfolding zeros
  zeros-stops h = refuses _ (via-reads _ _ _ (pair-stops f (λ _. field w (eqb 0) n) h)) (omega arith)

  pub zeros-goes : {D : Type 0} {m' : ℕ} {r'' : FileReader} {u : D → ℕ} {b : B} {o : Result D Refusal} → Reads f m v r r' (Ok b) → Reads (field w (within 0 1) n) m' u r' r'' o
      → Reads (zeros f w n) (m + m') (λ d. v b) r r'' o
  unfolding zeros
  zeros-goes h k = via-reads _ _ _ (pair-goes f (λ _. field w (eqb 0) n) h (zero-bits w n k))

-- a whole file: the format, from the start of the bytes, the filling bits and the end

module _ {A : Type 0} (f : Format A) (r : FileReader) where
  pub file-stops : {n : ℕ} → bad n r.bits.at ≡ f.read r.bits.src.now 0 → bad n r.bits.at ≡ read_file f r.bits.src.now
  unfolding read_file
  file-stops {n} h = stop n r.bits.at (λ a q. ended r.bits.src.now a q) h

  module _ {a : A} (h : ok a r.bits.at ≡ f.read r.bits.src.now 0) where
    -- the filling bits follow what was read
    followed : ended r.bits.src.now a r.bits.at ≡ read_file f r.bits.src.now
    unfolding read_file
    followed = go_on a r.bits.at (λ a q. ended r.bits.src.now a q) h

    module _ {r' : FileReader} {m : ℕ} {u : ℕ → ℕ} where
      pub file-unfilled : {e : Refusal} → Reads (field ((8 - r.bits.at % 8) % 8) (within 0 1) 3) m u r r' (Err e) → bad (number_of e) r'.bits.at ≡ read_file f r.bits.src.now
      unfolding ended
      file-unfilled {e} g =
          stop (number_of e) r'.bits.at (λ x q. tested (eqb q (8 * length r.bits.src.now)) 3 a q) (zero-bits _ 3 g).answer ∙ followed

      pub file-ends : {x : ℕ} (t : Bool) → Reads (field ((8 - r.bits.at % 8) % 8) (within 0 1) 3) m u r r' (Ok x) → t ≡ eqb r'.bits.at (8 * length r'.bits.src.now)
          → tested t 3 a r'.bits.at ≡ read_file f r.bits.src.now
      unfolding ended
      file-ends {x} t g e =
          ap (λ (y : Bool). tested y 3 a r'.bits.at) (e ∙ ap (λ (s : _). eqb r'.bits.at (8 * length s.now)) g.source)
          ∙ go_on (u x) r'.bits.at (λ x q. tested (eqb q (8 * length r.bits.src.now)) 3 a q) (zero-bits _ 3 g).answer
          ∙ followed
