-- What is proved of steps on cells. The proofs are in proofs/Theorems.antt.
-- Assumes nothing.
use Rattle.std.specs.Prelude.{◌≡◌, ◌↔◌, List, ◌∷◌, ℕ, ◌≤◌, ◌<◌}
use Rattle.std.proofs.Math.Option.{none, some}
use Rattle.policy.specs.Policy.{Policy}
use Rattle.rules.specs.Answers.{reading, rules}
use Rattle.runs.specs.Model.{Model}
use Rattle.runs.specs.State.{State}
use Rattle.runs.specs.Step.{Carried}
use Rattle.cells.specs.Row.{parts_of, step_of}
use Rattle.allowed.specs.Allowed.{model_of}
use Rattle.live.specs.Lent.{Lent}
use Rattle.steps.specs.Step.{step_in, steps_in}
use Rattle.steps.specs.Codes.{Bytes, Codes, Room, Reads}

-- a row on cells that code the state t of a run
pub record TableStep (m : Model) (s : Lent) (t : State) (row : ℕ) : Type 0 where
  -- carried out exactly when no spare bit is set, the run carries the step out, and a number and a cell are left where one is given
  pub carried :
      ((step_in m s row).refusal ≡ none) ↔ (((parts_of row).spare ≡ 0) × Room s (step_of (parts_of row)) × ((after : State) × Carried m t (step_of (parts_of row)) after))
  -- the cells then code the run's next state
  pub codes : (after : State) → Carried m t (step_of (parts_of row)) after → (step_in m s row).refusal ≡ none → Codes m (step_in m s row).lent after
  -- any other row gets a number from 12 to 16, and everything is as it was
  pub refused : (n : ℕ) → (step_in m s row).refusal ≡ some n → ((step_in m s row).lent ≡ s) × (12 ≤ n) × (n ≤ 16)

-- [Demand 2; 01:Steps; Runs, the list]: the step on cells is the step of the run, for all six kinds, both ways
abbrev pub StepIsTheTable : Type 0
StepIsTheTable = (m : Model) → Bytes m → (s : Lent) (t : State) → Codes m s t → (row : ℕ) → TableStep m s t row

-- [01:Steps, "with a user and value of the rules"]: rules that were read from a file have users and values that are bytes
abbrev pub FilesAreBytes : Type 0
FilesAreBytes = (file : List ℕ) (p : Policy) → reading file ≡ rules p → Bytes (model_of p)

-- [01:Steps, "taken as it reads"]: two lent states that read alike, with the same next numbers and as many cells, get the same outcome
abbrev pub LentStatesThatReadAlike : Type 0
LentStatesThatReadAlike = (m : Model) (s t : Lent) → Reads m s t → (row : ℕ) → (step_in m s row).refusal ≡ (step_in m t row).refusal

-- in the state s the row gives session number k
pub record GivesSession (m : Model) (s : Lent) (row k : ℕ) : Type 0 where
  pub done : (step_in m s row).refusal ≡ none
  pub kind : (parts_of row).kind ≡ 1
  pub number : (parts_of row).target ≡ k

-- in the state s the row gives item number k
pub record GivesItem (m : Model) (s : Lent) (row k : ℕ) : Type 0 where
  pub done : (step_in m s row).refusal ≡ none
  pub kind : (parts_of row).kind ≡ 4
  pub number : (parts_of row).target ≡ k

-- [01:Steps, "count up and are never given twice"]: whatever the cells hold and whatever rows come between, a number given later is greater
pub record NumbersCountUp : Type 0 where
  pub sessions : (m : Model) (s : Lent) (row : ℕ) (between : List ℕ) (later k j : ℕ)
      → GivesSession m s row k → GivesSession m (steps_in m s (row ∷ between)) later j → k < j
  pub items : (m : Model) (s : Lent) (row : ℕ) (between : List ℕ) (later k j : ℕ)
      → GivesItem m s row k → GivesItem m (steps_in m s (row ∷ between)) later j → k < j
