-- Rows one after another on lent cells, up to the first that is not carried out.
-- Assumes nothing.
use Rattle.std.specs.Prelude.{List, [], ◌∷◌, ℕ, ◌+◌}
use Rattle.std.proofs.Math.Option.{Option, none, some}
use Rattle.runs.specs.Model.{Model}
use Rattle.live.specs.Lent.{Lent}
use Rattle.steps.specs.Step.{step_in}

-- how rows came out: carried out, or the number of the first that was not; what then stands; how many were carried out
pub record Ran : Type 0 where
  pub refusal : Option ℕ
  pub lent : Lent
  pub count : ℕ

-- all rows so far were carried out
unfoldable pub ran_all : Lent → ℕ → Ran
ran_all s done = record { refusal = none; lent = s; count = done }

-- what follows a row
unfoldable pub further : Option ℕ → Lent → ℕ → (ℕ → Ran) → Ran
further none s done f = f (done + 1)
further (some n) s done f = record { refusal = some n; lent = s; count = done }

-- the rows, after so many were carried out
unfoldable pub rows_in : Model → Lent → ℕ → List ℕ → Ran
rows_in m s done [] = ran_all s done
rows_in m s done (row ∷ rows) = let a = step_in m s row in further a.refusal a.lent done (λ k. rows_in m a.lent k rows)
