-- Laws of lists of steps. In order: the row of an earlier node; a node's step by its kind; the steps of the first nodes: one more, where each comes
-- from, how many they are.
use mathlib.Core.Path.{◌≡◌, refl, sym, ap, ◌∙◌, subst}
use mathlib.Core.Bool.{Bool, true, false, cond}
use mathlib.Core.List.{List, [], ◌∷◌, ◌++◌, append-nil}
use Prim.Native.Nat.{ℕ, zero, suc, ◌+◌, ◌≤◌, ◌<◌}
use native.Mathlib.Decide.{dec_lt}
use native.Mathlib.Numerals.{add-one}
use native.Mathlib.Omega.{arith}
use borrow.Author.Tests.{lt-ltb, le-ltb}
use lib.ListN.{length, get_or, length-append, get_or-append}
use lib.Seq.{get_or_at}
use Rattle.policy.specs.Nodes.{op_of, first_of, second_of}
use Rattle.bitsets.specs.Steps.{step_of}
use Rattle.prepared.specs.Level.{ref_of, node_step, steps_of}

module _ (own j k : ℕ) where
  pub ref-earlier : j < k → ref_of own j k ≡ own + j
  unfolding ref_of
  ref-earlier l = ap (λ (b : Bool). cond b (own + j) 0) (lt-ltb j k l)

  pub ref-none : k ≤ j → ref_of own j k ≡ 0
  unfolding ref_of
  ref-none l = ap (λ (b : Bool). cond b (own + j) 0) (le-ltb j k l)

  pub ref-few : ref_of own j k ≤ own + k
  ref-few = go (dec_lt j k)
    where
      go : Dec (j < k) → ref_of own j k ≤ own + k
      go (yes l) = omega (arith, ref-earlier l)
      go (no l) = omega (arith, ref-none (omega arith))

-- a node's step: told, joined, taken from its table, or copied
module _ (own from : ℕ) (differ indexed : Bool) (node k base : ℕ) where
  pub step-told : differ ≡ false → node_step own from differ indexed node k base ≡ step_of 5 (own + k) (from + k) 0
  unfolding node_step
  step-told d = rw d refl

  pub step-join : differ ≡ true → op_of node < 5 →
      node_step own from differ indexed node k base ≡ step_of (op_of node) (own + k) (ref_of own (first_of node) k) (ref_of own (second_of node) k)
  unfolding node_step
  step-join d o = rw (d, lt-ltb (op_of node) 5 o) refl

  pub step-taken : differ ≡ true → 5 ≤ op_of node → indexed ≡ true → node_step own from differ indexed node k base ≡ step_of 6 (own + k) base 0
  unfolding node_step
  step-taken d o x = rw (d, le-ltb (op_of node) 5 o, x) refl

  pub step-copied : differ ≡ true → 5 ≤ op_of node → indexed ≡ false → node_step own from differ indexed node k base ≡ step_of 4 (own + k) base base
  unfolding node_step
  step-copied d o x = rw (d, le-ltb (op_of node) 5 o, x) refl

  -- what holds of all four holds of the step
  pub step-cases : (P : ℕ → Type 0) → (differ ≡ false → P (step_of 5 (own + k) (from + k) 0))
      → (differ ≡ true → op_of node < 5 → P (step_of (op_of node) (own + k) (ref_of own (first_of node) k) (ref_of own (second_of node) k)))
      → (differ ≡ true → 5 ≤ op_of node → indexed ≡ true → P (step_of 6 (own + k) base 0))
      → (differ ≡ true → 5 ≤ op_of node → indexed ≡ false → P (step_of 4 (own + k) base base))
      → P (node_step own from differ indexed node k base)
  step-cases P told join taken copied = go differ refl indexed refl (dec_lt (op_of node) 5)
    where
      go : (d : Bool) → differ ≡ d → (x : Bool) → indexed ≡ x → Dec (op_of node < 5) → P (node_step own from differ indexed node k base)
      go false d x e o = subst P (sym (step-told d)) (told d)
      go true d x e (yes o) = subst P (sym (step-join d o)) (join d o)
      go true d true e (no o) = subst P (sym (step-taken d (omega arith) e)) (taken d (omega arith) e)
      go true d false e (no o) = subst P (sym (step-copied d (omega arith) e)) (copied d (omega arith) e)

module _ (chosen : ℕ → Bool) (step : ℕ → ℕ) where
  pub taken_is : (n : ℕ) → chosen n ≡ true → steps_of chosen step (suc n) ≡ steps_of chosen step n ++ (step n ∷ [])
  unfolding steps_of
  taken_is n e = ap (λ (b : Bool). steps_of chosen step n ++ cond b (step n ∷ []) []) e

  pub taken-long : (n : ℕ) → chosen n ≡ true → length (steps_of chosen step (suc n)) ≡ suc (length (steps_of chosen step n))
  taken-long n e = ap length (taken_is n e) ∙ length-append (steps_of chosen step n) (step n ∷ []) ∙ add-one (length (steps_of chosen step n))

  pub taken-last : (n : ℕ) → chosen n ≡ true → get_or (steps_of chosen step (suc n)) (length (steps_of chosen step n)) 0 ≡ step n
  taken-last n e =
      ap (λ (l : List ℕ). get_or l (length (steps_of chosen step n)) 0) (taken_is n e)
      ∙ get_or_at (steps_of chosen step n) (step n) [] 0 (length (steps_of chosen step n)) refl

  pub left_is : (n : ℕ) → chosen n ≡ false → steps_of chosen step (suc n) ≡ steps_of chosen step n
  unfolding steps_of
  left_is n e = ap (λ (b : Bool). steps_of chosen step n ++ cond b (step n ∷ []) []) e ∙ append-nil (steps_of chosen step n)

  pub steps-kept : (n j : ℕ) → j < length (steps_of chosen step n) → get_or (steps_of chosen step (suc n)) j 0 ≡ get_or (steps_of chosen step n) j 0
  unfolding steps_of
  steps-kept n j l = get_or-append (steps_of chosen step n) (cond (chosen n) (step n ∷ []) []) 0 j l

  -- each is the step of a node that is chosen
  pub steps-from : (n j : ℕ) → j < length (steps_of chosen step n) → (k : ℕ) × (k < n) × (chosen k ≡ true) × (get_or (steps_of chosen step n) j 0 ≡ step k)
  unfolding steps_of
  steps-from zero j l = absurd (omega arith)
  steps-from (suc n) j l = go (chosen n) refl (dec_lt j (length (steps_of chosen step n))) (λ q. steps-from n j q)
    where
      go : (b : Bool) → chosen n ≡ b → Dec (j < length (steps_of chosen step n))
          → (j < length (steps_of chosen step n) → (k : ℕ) × (k < n) × (chosen k ≡ true) × (get_or (steps_of chosen step n) j 0 ≡ step k))
          → (k : ℕ) × (k < suc n) × (chosen k ≡ true) × (get_or (steps_of chosen step (suc n)) j 0 ≡ step k)
      go b e (yes q) f = let w = f q in (w.0, omega (arith, w.1), w.2, steps-kept n j q ∙ w.3)
      go true e (no q) f =
          let d : j ≡ length (steps_of chosen step n) = omega (arith, taken-long n e, l) in
          (n, omega arith, e, ap (λ (z : ℕ). get_or (steps_of chosen step (suc n)) z 0) d ∙ taken-last n e)
      go false e (no q) f = absurd (omega (arith, ap length (left_is n e), l))

  pub steps-few : (n : ℕ) → length (steps_of chosen step n) ≤ n
  unfolding steps_of
  steps-few zero = omega arith
  steps-few (suc n) = go (chosen n) refl (steps-few n)
    where
      go : (b : Bool) → chosen n ≡ b → length (steps_of chosen step n) ≤ n → length (steps_of chosen step (suc n)) ≤ suc n
      go true e l = omega (arith, taken-long n e)
      go false e l = omega (arith, ap length (left_is n e))
