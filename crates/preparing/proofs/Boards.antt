-- Laws of the lists of steps. In order: the tables begin at rows of 16 bits; the steps find their rows; one node more.
use mathlib.Core.Path.{◌≡◌, sym, ap, ap₂, ◌∙◌}
use mathlib.Core.Bool.{Bool, true, false}
use mathlib.Core.List.{List, [], ◌∷◌, ◌++◌}
use Prim.Native.Nat.{ℕ, ◌+◌, ◌*◌, ◌≤◌, ◌<◌}
use native.Mathlib.Numerals.{add-one}
use native.Mathlib.Omega.{arith}
use lib.ListN.{length, get_or}
use Rattle.bitsets.specs.Steps.{Fits}
use Rattle.prepared.specs.Level.{node_step, steps_of}
use Rattle.prepared.specs.Prepared.{table_at}
use Rattle.prepared.proofs.Lists.{taken_is, left_is}
use Rattle.prepared.proofs.Level.{level-fits}
use Rattle.tables.proofs.Filling.{times-later, times-few, table_is}

pub table-few : (room k : ℕ) → k < 64 → room ≤ 256 → table_at room k < 65536
table-few room k l h = omega (arith, table_is room k, times-few room k l h)

-- the steps find their rows, where each table has place for so many rows
pub steps-fit : (nodes : List ℕ) (n i own from room N : ℕ) (chosen differ indexed : ℕ → Bool) → n ≤ 64 → i < room → room ≤ 256 → own + 64 ≤ 193
    → from + 64 ≤ 193 → 4 * (193 + 64 * room) ≤ N → (steps : List ℕ)
    → steps ≡ steps_of chosen (λ k. node_step own from (differ k) (indexed k) (get_or nodes k 0) k (table_at room k)) n
    → (j : ℕ) → j < length steps → Fits N i (get_or steps j 0)
steps-fit nodes n i own from room N chosen differ indexed few l h a b long =
    level-fits nodes n i own from chosen differ indexed (table_at room) N few (omega arith) (omega arith) (omega arith)
    (λ k p. table-few room k (omega arith) h) (omega arith) (omega arith)
    (λ k p e d o.
    let w = times-later room k 64 (omega arith) in
    let t = table_is room k in
    (λ x. omega (arith, w, t), omega (arith, w, t)))

-- the list for one node more
module _ (chosen : ℕ → Bool) (step : ℕ → ℕ) (k : ℕ) (old new : List ℕ) (e : old ≡ steps_of chosen step k) where
  pub listed-taken : (s : ℕ) → chosen k ≡ true → s ≡ step k → new ≡ old ++ s ∷ [] → new ≡ steps_of chosen step (k + 1)
  listed-taken s t d n =
      n ∙ ap₂ (λ (l : List ℕ) (x : ℕ). l ++ x ∷ []) e d ∙ sym (ap (λ (j : ℕ). steps_of chosen step j) (add-one k) ∙ taken_is chosen step k t)

  pub listed-left : chosen k ≡ false → new ≡ old → new ≡ steps_of chosen step (k + 1)
  listed-left f n = n ∙ e ∙ sym (ap (λ (j : ℕ). steps_of chosen step j) (add-one k) ∙ left_is chosen step k f)
