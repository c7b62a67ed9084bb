-- Laws of steps, for callers. In order: the parts of a step, what a step says, steps one after another.
use mathlib.Core.Path.{◌≡◌, refl, sym, ap₂, ◌∙◌}
use mathlib.Core.Bool.{Bool, true, false, not, ◌&&◌, ◌||◌, cond}
use mathlib.Core.List.{List}
use Prim.Native.Nat.{ℕ, zero, suc, ◌+◌, ◌<◌}
use native.Mathlib.Decide.{dec_lt, ℕ_discrete}
use native.Mathlib.Numerals.{add-one}
use native.Mathlib.Omega.{arith}
use borrow.Author.Tests.{ne_eqb}
use lib.Dec.{eqb}
use lib.ListN.{get_or}
use Rattle.lanes.specs.Lanes.{lane_of, Lanes}
use Rattle.lanes.proofs.Laws.{lanes-as, lanes-and, lanes-or, lanes-not}
use Rattle.formulas.specs.Parts.{joined_by}
use Rattle.bitsets.specs.Rows.{bit_at, Rows, put}
use Rattle.bitsets.specs.Steps.{does_of, row_of, left_of, right_of, step_of, step_says, ran}
use Rattle.bitsets.proofs.Rows.{rows_as, rows-own, put-alike}

module _ (does row left right : ℕ) (a : row < 65536) (b : left < 65536) (c : right < 65536) where
  pub does-of : does_of (step_of does row left right) ≡ does
  unfolding does_of step_of
  does-of = omega arith

  pub row-of : row_of (step_of does row left right) ≡ row
  unfolding row_of step_of
  row-of = omega arith

  pub left-of : left_of (step_of does row left right) ≡ left
  unfolding left_of step_of
  left-of = omega arith

  pub right_of_lem : right_of (step_of does row left right) ≡ right
  unfolding right_of step_of
  right_of_lem = omega arith

false-both : (b : Bool) → cond b false false ≡ false
false-both true = refl
false-both false = refl

-- an operator that is none of 1 to 4 joins nothing
no_join : (op : ℕ) (x y : Bool) → (op ≡ 1 → ⊥) → (op ≡ 2 → ⊥) → (op ≡ 3 → ⊥) → (op ≡ 4 → ⊥) → joined_by op x y false ≡ false
unfolding joined_by
no_join op x y a b c d = simp (ne_eqb op 1 a, ne_eqb op 2 b, ne_eqb op 3 c, ne_eqb op 4 d) (false-both (eqb op 0))

module _ (A : ℕ → ℕ → Bool) (i s v : ℕ) where
  pub says-joined : (does_of s ≡ 5 → ⊥) → (does_of s ≡ 6 → ⊥) → step_says A i s v ≡ joined_by (does_of s) (A (left_of s) v) (A (right_of s) v) false
  unfolding step_says
  says-joined a b = simp (ne_eqb (does_of s) 5 a, ne_eqb (does_of s) 6 b)

  pub says-join : does_of s < 5 → step_says A i s v ≡ joined_by (does_of s) (A (left_of s) v) (A (right_of s) v) false
  says-join h = says-joined (λ e. omega arith) (λ e. omega arith)

  pub says-bit : does_of s ≡ 5 → step_says A i s v ≡ A (left_of s) i
  unfolding step_says
  says-bit e = simp e

  pub says-table : does_of s ≡ 6 → step_says A i s v ≡ A (left_of s + i) v
  unfolding step_says
  says-table e = simp e

  -- past 6 a step says nothing
  pub says_none : 6 < does_of s → step_says A i s v ≡ false
  says_none h =
      says-joined (λ e. omega arith) (λ e. omega arith)
      ∙ no_join (does_of s) (A (left_of s) v) (A (right_of s) v) (λ e. omega arith) (λ e. omega arith) (λ e. omega arith) (λ e. omega arith)

-- a step's row by the rows that it looks at
module _ (A : ℕ → ℕ → Bool) (i s : ℕ) (r : List ℕ) where
  pub made-true : does_of s ≡ 1 → Lanes (λ v. true) r → Lanes (step_says A i s) r
  unfolding step_says joined_by
  made-true e R = lanes-as _ _ r R (λ v h. simp e)

  module _ (x : List ℕ) (X : Lanes (A (left_of s)) x) where
    pub made-not : does_of s ≡ 2 → Lanes (λ v. not (lane_of x v)) r → Lanes (step_says A i s) r
    unfolding step_says joined_by
    made-not e R = lanes-as _ _ r (lanes-not _ x r X R) (λ v h. simp e)

    module _ (y : List ℕ) (Y : Lanes (A (right_of s)) y) where
      pub made-and : does_of s ≡ 3 → Lanes (λ v. lane_of x v && lane_of y v) r → Lanes (step_says A i s) r
      unfolding step_says joined_by
      made-and e R = lanes-as _ _ r (lanes-and _ _ x y r X Y R) (λ v h. simp e)

      pub made-or : does_of s ≡ 4 → Lanes (λ v. lane_of x v || lane_of y v) r → Lanes (step_says A i s) r
      unfolding step_says joined_by
      made-or e R = lanes-as _ _ r (lanes-or _ _ x y r X Y R) (λ v h. simp e)

  pub made-bit : does_of s ≡ 5 → Lanes (λ v. A (left_of s) i) r → Lanes (step_says A i s) r
  made-bit e R = lanes-as _ _ r R (λ v h. sym (says-bit A i s v e))

  pub made_table : does_of s ≡ 6 → Lanes (A (left_of s + i)) r → Lanes (step_says A i s) r
  made_table e R = lanes-as _ _ r R (λ v h. sym (says-table A i s v e))

  pub made_none : (does_of s ≡ 1 → ⊥) → (does_of s ≡ 2 → ⊥) → (does_of s ≡ 3 → ⊥) → (does_of s ≡ 4 → ⊥) → (does_of s ≡ 5 → ⊥) → (does_of s ≡ 6 → ⊥)
      → Lanes (λ v. false) r → Lanes (step_says A i s) r
  made_none a b c d e f R =
      lanes-as _ _ r R (λ v h. sym (says-joined A i s v e f ∙ no_join (does_of s) (A (left_of s) v) (A (right_of s) v) a b c d))

-- what a step says is known by the bits that it looks at
pub says-alike-at : (A B : ℕ → ℕ → Bool) (i s v : ℕ)
    → (does_of s < 5 → A (left_of s) v ≡ B (left_of s) v) → (does_of s < 5 → A (right_of s) v ≡ B (right_of s) v)
    → (does_of s ≡ 5 → A (left_of s) i ≡ B (left_of s) i) → (does_of s ≡ 6 → A (left_of s + i) v ≡ B (left_of s + i) v) → step_says A i s v ≡ step_says B i s v
says-alike-at A B i s v left right bit table = go (dec_lt (does_of s) 5) (ℕ_discrete (does_of s) 5) (ℕ_discrete (does_of s) 6)
  where
    go : Dec (does_of s < 5) → Dec (does_of s ≡ 5) → Dec (does_of s ≡ 6) → step_says A i s v ≡ step_says B i s v
    go (yes h) _ _ = says-join A i s v h ∙ ap₂ (λ (x y : Bool). joined_by (does_of s) x y false) (left h) (right h) ∙ sym (says-join B i s v h)
    go (no h) (yes e) _ = says-bit A i s v e ∙ bit e ∙ sym (says-bit B i s v e)
    go (no h) (no n) (yes e) = says-table A i s v e ∙ table e ∙ sym (says-table B i s v e)
    go (no h) (no n) (no m) = says_none A i s v (omega arith) ∙ sym (says_none B i s v (omega arith))

pub says-alike : (A B : ℕ → ℕ → Bool) (i s v : ℕ) → i < 256 → v < 256 → ((a w : ℕ) → w < 256 → A a w ≡ B a w) → step_says A i s v ≡ step_says B i s v
says-alike A B i s v p h e =
    says-alike-at A B i s v (λ d. e (left_of s) v h) (λ d. e (right_of s) v h) (λ d. e (left_of s) i p) (λ d. e (left_of s + i) v h)

module _ (steps : List ℕ) (first i : ℕ) where
  pub ran-none : (A : ℕ → ℕ → Bool) (a v : ℕ) → ran steps first i 0 A a v ≡ A a v
  unfolding ran
  ran-none A a v = refl

  -- one step more
  pub ran-more : (m : ℕ) (A : ℕ → ℕ → Bool) (a v : ℕ) → ran steps first i (m + 1) A a v
      ≡ put (row_of (get_or steps (first + m) 0)) (step_says (ran steps first i m A) i (get_or steps (first + m) 0)) (ran steps first i m A) a v
  unfolding ran
  ran-more m A a v = rw add-one

  -- the same steps keep rows alike
  pub ran-alike : (A B : ℕ → ℕ → Bool) → i < 256 → ((a v : ℕ) → v < 256 → A a v ≡ B a v) → (m a v : ℕ) → v < 256
      → ran steps first i m A a v ≡ ran steps first i m B a v
  unfolding ran
  ran-alike A B p e zero a v h = e a v h
  ran-alike A B p e (suc m) a v h =
      let s = get_or steps (first + m) 0 in
      let before = ran-alike A B p e m in
      put-alike (row_of s) _ _ _ _ a v (says-alike (ran steps first i m A) (ran steps first i m B) i s v p h before) (before a v h)

  -- the loop over the steps: its start, and a turn
  pub ran-start : (t : List ℕ) → Rows (ran steps first i 0 (bit_at t)) t
  ran-start t = rows_as (bit_at t) (ran steps first i 0 (bit_at t)) t (rows-own t) (λ a v h. sym (ran-none (bit_at t) a v))

  pub ran-turn : (m : ℕ) (A : ℕ → ℕ → Bool) (old new x : List ℕ) → i < 256 → Rows (ran steps first i m A) old
      → Lanes (step_says (bit_at old) i (get_or steps (first + m) 0)) x
      → Rows (put (row_of (get_or steps (first + m) 0)) (lane_of x) (bit_at old)) new → Rows (ran steps first i (m + 1) A) new
  ran-turn m A old new x p R X W =
      let s = get_or steps (first + m) 0 in
      let before = ran steps first i m A in
      rows_as _ _ new W
      (λ a v h. put-alike (row_of s) (lane_of x) (step_says before i s) (bit_at old) before a v
      (X.each v h ∙ says-alike (bit_at old) before i s v p h R.each) (R.each a v h) ∙ sym (ran-more m A a v))
