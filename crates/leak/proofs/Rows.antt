-- Rows that are carried out. In order: the row of a step and its step; rows that lead from a state to a state; none, one, and one list after another;
-- tables by their last row.
use mathlib.Core.Path.{◌≡◌, refl, sym, ap, ◌∙◌, subst}
use mathlib.Core.List.{List, [], ◌∷◌, ◌++◌, map, map-append}
use Prim.Native.Nat.{ℕ, zero, suc, ◌+◌, ◌<◌}
use native.Mathlib.Omega.{arith}
use Rattle.bits.specs.Packed.{tab}
use Rattle.runs.specs.Model.{Model}
use Rattle.runs.specs.State.{State}
use Rattle.runs.specs.Step.{Step, Carried}
use Rattle.runs.specs.Outcome.{CarriedAll, stop, then}
use Rattle.runs.proofs.Bring.{row, append-carried}
use Rattle.cells.specs.Row.{parts_of, step_of, row_step}
use Rattle.cells.proofs.Rows.{parts_again, step_is}
use Rattle.session_rows.specs.Writing.{row_of}

-- every part of a row fits its field
pub record Fit (kind actor target value : ℕ) : Type 0 where
  pub kind_fits : kind < 16
  pub actor-fits : actor < 1048576
  pub target_fits : target < 1048576
  pub value-fits : value < 4096

module _ (k a t v : ℕ) (f : Fit k a t v) where
  parts_are : parts_of (row_of k a t v) ≡ record { kind = k; actor = a; target = t; value = v; spare = 0 }
  unfolding row_of
  parts_are =
      parts_again _ record { kind = omega (arith, f.kind_fits); actor = omega (arith, f.actor-fits); target = omega (arith, f.target_fits); value = omega (arith, f.value-fits); spare = omega arith }

  pub row_step_lem : row_step (row_of k a t v) ≡ row k a t v
  row_step_lem = ap step_of parts_are ∙ step_is _

  pub row-spare : (parts_of (row_of k a t v)).spare ≡ 0
  row-spare = rw parts_are refl

module _ (m : Model) where
  -- the rows are carried out from s to after, and have nothing in their spare bits
  pub record Done (s : State) (l : List ℕ) (after : State) : Type 0 where
    pub carried : CarriedAll m s (map row_step l) after
    pub plain : map (λ x. (parts_of x).spare) l ≡ map (λ x. 0) l

  pub done_none : (s : State) → Done s [] s
  done_none s = record { carried = stop; plain = refl }

  pub done-one : (s after : State) (k a t v : ℕ) → Fit k a t v → Carried m s (row k a t v) after → Done s (row_of k a t v ∷ []) after
  done-one s after k a t v f d =
      record { carried = then (subst (λ (p : Step). Carried m s p after) (sym (row_step_lem k a t v f)) d) stop; plain = ap (λ (x : ℕ). x ∷ []) (row-spare k a t v f) }

  pub done-append : {s next after : State} {l r : List ℕ} → Done s l next → Done next r after → Done s (l ++ r) after
  done-append {s} {next} {after} {l} {r} p q = record {
    carried = subst (λ (ps : List Step). CarriedAll m s ps after) (sym (map-append row_step l r)) (append-carried m p.carried q.carried);
    plain = map-append (λ x. (parts_of x).spare) l r ∙ ap (λ (x : List ℕ). x ++ map (λ y. (parts_of y).spare) r) p.plain ∙ ap (λ (x : List ℕ). map (λ y. 0) l ++ x) q.plain ∙ sym (map-append (λ x. 0) l r);
  }

-- a table by its last row
pub tab-last : (f : ℕ → ℕ) (k n : ℕ) → tab f k (suc n) ≡ tab f k n ++ f (k + n) ∷ []
unfolding tab
tab-last f k zero = ap (λ (i : ℕ). f i ∷ []) (omega arith)
tab-last f k (suc n) = ap (λ (l : List ℕ). f k ∷ l) (tab-last f (suc k) n ∙ ap (λ (i : ℕ). tab f (suc k) n ++ f i ∷ []) (omega arith))
