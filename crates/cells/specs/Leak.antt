-- Rows that are a leak [01:Runs, "A grant fits a question when .."; Demand 3]: each is carried out in the run, and the last is a grant that fits.
-- Assumes nothing.
use Rattle.std.specs.Prelude.{◌≡◌, List, [], ◌∷◌, ◌++◌, map, ℕ}
use Rattle.runs.specs.Model.{Model}
use Rattle.runs.specs.State.{State}
use Rattle.runs.specs.Grant.{Who, Which, Fits}
use Rattle.runs.specs.Outcome.{CarriedAll}
use Rattle.cells.specs.Row.{parts_of, row_step}

-- all rows are carried out from the start, no spare bit is set, and the last is a grant that fits what is asked
pub record IsLeak (m : Model) (start : State) (who : Who) (which : Which) (permission : ℕ) (rows : List ℕ) : Type 0 where
  pub before : List ℕ
  pub last : ℕ
  pub rows_are : rows ≡ before ++ last ∷ []
  pub state : State
  pub carried : CarriedAll m start (map row_step before) state
  pub fits : Fits m state who which permission (row_step last)
  pub plain : map (λ row. (parts_of row).spare) rows ≡ map (λ row. 0) rows
