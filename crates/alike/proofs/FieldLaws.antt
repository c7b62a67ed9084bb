-- Laws of where the operands of one holder lie. In order: the bits right of an attribute; the tables, filled in or not.
use mathlib.Core.Path.{◌≡◌, sym, ap, ◌∙◌}
use mathlib.Core.Bool.{Bool, cond}
use mathlib.Core.List.{List}
use Prim.Native.Nat.{ℕ, suc, ◌+◌, ◌/◌, ◌≤◌, ◌<◌, min}
use native.Mathlib.Decide.{ℕ_discrete}
use native.Mathlib.Numerals.{add-one}
use native.Mathlib.Omega.{arith}
use borrow.Author.Tests.{eq-eqb, ne_eqb}
use lib.Dec.{eqb}
use lib.ListN.{length, get_or, drop, replicate, length-replicate, get_or-replicate}
use lib.Seq.{ext_get_or}
use Rattle.bits.specs.Packed.{tab}
use Rattle.bits.proofs.Packed.{length-tab, get_or-tab}
use Rattle.policy.specs.Policy.{Attr, bits_for, width}
use Rattle.policy.specs.Nodes.{holder_of, place_of}
use Rattle.formulas.specs.Value.{attr_of}
use Rattle.alike.specs.Fields.{shift_in, bits_in}
use Rattle.formulas.specs.Parts.{Filling}

-- what stands right of an attribute, by the width of the later ones
pub right-at : (l : List Attr) (k left : ℕ) → left ≡ width (drop (k + 1) l) → min left 8 ≡ min (width (drop (suc k) l)) 8
right-at l k left e = ap (λ (n : ℕ). min n 8) (e ∙ ap (λ (n : ℕ). width (drop n l)) (add-one k))

-- a table of all operands in which the places of holder h are filled in
module _ (part : ℕ → ℕ) (h : ℕ) (t : List ℕ) (z : t ≡ replicate 256 0) where
  long : length t ≡ 256
  long = ap length z ∙ length-replicate {A = ℕ} 256 0

  zero-at : (x : ℕ) → x < 256 → get_or t x 0 ≡ 0
  zero-at x l = ap (λ (m : List ℕ). get_or m x 0) z ∙ get_or-replicate 256 x 0 0 l

  whole : ℕ → ℕ
  whole x = cond (eqb (holder_of x) h) (part (place_of x)) 0

  all_of : (u : List ℕ) → length u ≡ 256 → ((x : ℕ) → x < 256 → get_or u x 0 ≡ whole x) → u ≡ tab whole 0 256
  all_of u l e =
      ext_get_or 0 u (tab whole 0 256) (l ∙ sym (length-tab whole 0 256))
      (λ x m. let n : x < 256 = omega arith in e x n ∙ sym (get_or-tab whole 0 256 x 0 n ∙ ap whole (omega arith)))

  laid : (u : List ℕ) → Filling (λ i k. part k) h h 0 t u → u ≡ tab whole 0 256
  unfolding whole
  laid u f = all_of u (f.same_length ∙ long) (λ x l. go x l (ℕ_discrete (holder_of x) h))
    where
      go : (x : ℕ) → x < 256 → Dec (holder_of x ≡ h) → get_or u x 0 ≡ whole x
      go x l (yes e) = f.inside x (omega (arith, long)) (omega arith) (omega arith) (omega arith) (zero-at x l) ∙ sym (ap (λ (b : Bool). cond b (part (place_of x)) 0) (eq-eqb (holder_of x) h e))
      go x l (no n) = f.outside x (λ a b. absurd (n (omega arith))) ∙ zero-at x l ∙ sym (ap (λ (b : Bool). cond b (part (place_of x)) 0) (ne_eqb (holder_of x) h n))

  -- there is no such holder
  not-laid : 8 ≤ h → t ≡ tab whole 0 256
  unfolding whole holder_of
  not-laid m = all_of t long (λ x l. zero-at x l ∙ sym (ap (λ (b : Bool). cond b (part (place_of x)) 0) (ne_eqb (x / 32) h (λ e. omega arith))))

module _ (l : List Attr) (h : ℕ) (t : List ℕ) (z : t ≡ replicate 256 0) where
  pub shifts-laid : (u : List ℕ) → Filling (λ i k. min (width (drop (suc k) l)) 8) h h 0 t u → u ≡ tab (shift_in l h) 0 256
  unfolding shift_in whole
  shifts-laid u f = laid (λ k. min (width (drop (suc k) l)) 8) h t z u f

  pub shifts-not : 8 ≤ h → t ≡ tab (shift_in l h) 0 256
  unfolding shift_in whole
  shifts-not m = not-laid (λ k. min (width (drop (suc k) l)) 8) h t z m

  pub bits-laid : (u : List ℕ) → Filling (λ i k. bits_for (attr_of l k)) h h 0 t u → u ≡ tab (bits_in l h) 0 256
  unfolding bits_in whole
  bits-laid u f = laid (λ k. bits_for (attr_of l k)) h t z u f

  pub bits-not : 8 ≤ h → t ≡ tab (bits_in l h) 0 256
  unfolding bits_in whole
  bits-not m = not-laid (λ k. bits_for (attr_of l k)) h t z m
