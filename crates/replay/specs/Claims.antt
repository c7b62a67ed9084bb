-- What is proved of replay. The proofs are in proofs/Theorems.antt.
-- Assumes nothing.
use Rattle.std.specs.Prelude.{◌≡◌, true, cond, List, [], ◌∷◌, ℕ, ◌+◌, ◌≤◌, eqb, length}
use Rattle.std.proofs.Math.Option.{none}
use Rattle.policy.specs.Policy.{Policy}
use Rattle.rules.specs.Answers.{reading, rules}
use Rattle.runs.specs.Grant.{Who, Which}
use Rattle.allowed.specs.Allowed.{model_of}
use Rattle.cells.specs.Row.{parts_of as row_parts}
use Rattle.cells.specs.Leak.{IsLeak}
use Rattle.live.specs.Lent.{numbers}
use Rattle.starting.specs.Start.{beginning}
use Rattle.replay.specs.Asked.{Asked}
use Rattle.replay.specs.Question.{parts_of, who_of, which_of, asks}
use Rattle.replay.specs.Replay.{replayed}

-- [01:The question; When a number is given instead, 10]: the bytes are taken to ask what the relation says, and only that
pub record QuestionIsAsked : Type 0 where
  pub asked : (p : Policy) (question : List ℕ) → asks p question ≡ true
      → Asked p question (who_of (parts_of question)) (which_of (parts_of question)) (parts_of question).permission
  pub only : (p : Policy) (question : List ℕ) (who : Who) (which : Which) (permission : ℕ) → Asked p question who which permission
      → (asks p question ≡ true) × (who ≡ who_of (parts_of question)) × (which ≡ which_of (parts_of question)) × (permission ≡ (parts_of question).permission)

-- how many rows are of a kind
unfoldable pub of_kind : ℕ → List ℕ → ℕ
of_kind k [] = 0
of_kind k (row ∷ rows) = cond (eqb (row_parts row).kind k) 1 0 + of_kind k rows

-- [01:Runs, "Cells are enough for a leak when .."]
pub record Enough (p : Policy) (rows : List ℕ) (sessions items : ℕ) : Type 0 where
  pub session-cells : length p.sessions + of_kind 1 rows ≤ sessions
  pub item-cells : length p.items + of_kind 4 rows ≤ items

-- no more numbers are given than there are
pub record NumbersLeft (p : Policy) (rows : List ℕ) : Type 0 where
  pub session-numbers : length p.sessions + of_kind 1 rows ≤ numbers
  pub item-numbers : length p.items + of_kind 4 rows ≤ numbers

-- the question asks something, and the rows are a leak of it in the file's runs
pub record AskedLeak (p : Policy) (question rows : List ℕ) : Type 0 where
  pub who : Who
  pub which : Which
  pub permission : ℕ
  pub asked : Asked p question who which permission
  pub leak : IsLeak (model_of p) (beginning p) who which permission rows

-- [Demand 2 and 3; 01:Agreement, "a replay that believes all rows after the first"]: replayed exactly when each row is carried out in the run and
-- the last is a grant that fits; the other way where cells and numbers are enough, whatever the cells held
pub record ReplayIsTheRun : Type 0 where
  pub sound : (file : List ℕ) (p : Policy) → reading file ≡ rules p → (question rows sessions items : List ℕ)
      → (replayed (reading file) question rows sessions items).refusal ≡ none → AskedLeak p question rows
  pub complete : (file : List ℕ) (p : Policy) → reading file ≡ rules p → (question rows sessions items : List ℕ)
      → AskedLeak p question rows → Enough p rows (length sessions) (length items) → NumbersLeft p rows
      → (replayed (reading file) question rows sessions items).refusal ≡ none
