-- No step of any list grants exactly when there is no leak. In order: the step after a list; both ways.
use mathlib.Core.List.{List, [], ◌∷◌, ◌++◌}
use Prim.Native.Nat.{ℕ}
use Rattle.runs.specs.Model.{Model}
use Rattle.runs.specs.State.{State}
use Rattle.runs.specs.Step.{Step}
use Rattle.runs.specs.Stepped.{stepped}
use Rattle.runs.specs.Run.{or_same, run}
use Rattle.runs.specs.Grant.{Who, Which, Fits, Leak, NoStepFits}

module _ (m : Model) (who : Who) (which : Which) (permission : ℕ) where
  -- where no step of a list grants, the one after the first so many doesn't
  no-further : (start : State) (steps : List Step) (last : Step) → NoStepFits m start who which permission (steps ++ last ∷ [])
      → Fits m (run m start steps) who which permission last → ⊥
  unfolding run
  no-further start [] last (n, _) = n
  no-further start (p ∷ steps) last (_, n) = no-further (or_same start (stepped m start p)) steps last n

  -- no list and one further step, no step of a list
  none_of : (start : State) → (Leak m start who which permission → ⊥) → (steps : List Step) → NoStepFits m start who which permission steps
  unfolding run
  none_of start n [] = tt
  none_of start n (p ∷ steps) = (
    λ f. n record { steps = []; last = p; fits = f },
    none_of (or_same start (stepped m start p)) (λ l. n record { steps = p ∷ l.steps; last = l.last; fits = l.fits }) steps,
  )

module _ (m : Model) (start : State) (who : Who) (which : Which) (permission : ℕ) where
  pub no-step-no-leak : ((steps : List Step) → NoStepFits m start who which permission steps) → Leak m start who which permission → ⊥
  no-step-no-leak n l = no-further m who which permission start l.steps l.last (n (l.steps ++ l.last ∷ [])) l.fits

  pub no-leak-no-step : (Leak m start who which permission → ⊥) → (steps : List Step) → NoStepFits m start who which permission steps
  no-leak-no-step = none_of m who which permission start
