-- What is proved of every answer that meets the promise of `analyse`, by relations written from the paper's sentences. The proofs are in
-- proofs/Theorems.antt.
-- Assumes nothing.
use Rattle.std.specs.Prelude.{◌≡◌, ◌⊎◌, ◌↔◌, List, ℕ, length, take}
use Rattle.format.specs.File.{bytes}
use Rattle.policy.specs.Policy.{Policy}
use Rattle.rules.specs.Answers.{reading, refusal, rules, writing}
use Rattle.rules.specs.Claims.{Bytes, FileNumber}
use Rattle.runs.specs.State.{State}
use Rattle.runs.specs.Step.{Carried}
use Rattle.runs.specs.Grant.{Who, Which}
use Rattle.allowed.specs.Allowed.{model_of}
use Rattle.allowed.specs.Claims.{unlisted_policy}
use Rattle.cells.specs.Row.{parts_of, row_step}
use Rattle.cells.specs.Leak.{IsLeak}
use Rattle.live.specs.Lent.{Lent}
use Rattle.std.proofs.Math.Option.{none}
use Rattle.steps.specs.Step.{step_in}
use Rattle.steps.specs.Codes.{Codes, Room}
use Rattle.starting.specs.Start.{started, beginning}
use Rattle.starting.specs.Claims.{StartIsExact}
use Rattle.replay.specs.Asked.{Asked}
use Rattle.replay.specs.Replay.{replayed}
use Rattle.replay.specs.Claims.{Enough}
use Rattle.analyser.specs.Told.{no_verdict, safe_verdict, leak_verdict, Told}
use Rattle.analyser.specs.Answer.{rows_needed, told}
use Rattle.analyser.specs.Never.{Never, StartCould, StartCouldNot, AsksSomething, RowsEnough, RowsTooFew}
use Rattle.analyser.specs.Means.{Means}

-- what the answer t with n rows at the front of `after` decides of rules and what is asked of them
pub record Decides (p : Policy) (file question after : List ℕ) (t : Told) (n : ℕ) (who : Who) (which : Which) (permission : ℕ) : Type 0 where
  -- the file and the question alone decide: any rows that are enough, whatever they hold, get the same answer
  pub alone : (other left : List ℕ) (u : Told) (k : ℕ) → Means file question other left u k → RowsEnough p (length other) → u ≡ t
  -- between two verdicts
  pub two : (t.verdict ≡ safe_verdict) ⊎ (t.verdict ≡ leak_verdict)
  -- safe exactly when of every list of steps no step in it grants what is asked
  pub safe : (t.verdict ≡ safe_verdict) ↔ Never p who which permission
  -- else leak: each of the rows is carried out and the last is such a grant, and they replay in any cells that are enough, whatever these held
  pub leak : t.verdict ≡ leak_verdict
      → IsLeak (model_of p) (beginning p) who which permission (take n after)
      × ((sessions items : List ℕ) → Enough p (take n after) (length sessions) (length items)
      → (replayed (reading file) question (take n after) sessions items).refusal ≡ none)

-- [Demand 3]: for every file whose starting sessions their users could have brought about, with every question and row slice accepted beside it
abbrev pub Demand3 : Type 0
Demand3 = (file question before after : List ℕ) (t : Told) (n : ℕ) → Means file question before after t n → (p : Policy) → reading file ≡ rules p
    → StartCould p → (who : Who) (which : Which) (permission : ℕ) → Asked p question who which permission → RowsEnough p (length before)
    → Decides p file question after t n who which permission

-- where the verdict is safe, no step of any list of steps grants what is asked
abbrev pub SafeIsNever : Type 0
SafeIsNever = (file question : List ℕ) (room : ℕ) (p : Policy) → reading file ≡ rules p → (told (reading file) question room).verdict ≡ safe_verdict
    → (who : Who) (which : Which) (permission : ℕ) → Asked p question who which permission → Never p who which permission

-- [01:When a number is given instead, "The counts and rows are then 0 and no slice changes"; table, 1 to 8; 02:T-01]: a number or a verdict
pub record NumberOrVerdict (file question before after : List ℕ) (t : Told) (n : ℕ) : Type 0 where
  -- a file's number exactly where reading gives that number
  pub file-number : (k : ℕ) → FileNumber k → (t.number ≡ k) ↔ (reading file ≡ refusal k)
  -- no number exactly where there is a verdict
  pub either : (t.number ≡ 0) ↔ (t.verdict ≡ no_verdict → ⊥)
  -- where there is none, counts and rows are 0 and the lent rows are as they were
  pub empty : t.verdict ≡ no_verdict → (t.pairs ≡ 0) × (t.values ≡ 0) × (n ≡ 0) × (after ≡ before)

abbrev pub FileNumbersComeFirst : Type 0
FileNumbersComeFirst = (file question before after : List ℕ) (t : Told) (n : ℕ) → Means file question before after t n → NumberOrVerdict file question before after t n

-- [01:When a number is given instead, 9]: exactly when the file is read and some starting session its user could not have brought about
abbrev pub NineIsExact : Type 0
NineIsExact = (file question before after : List ℕ) (t : Told) (n : ℕ) → Means file question before after t n
    → (t.number ≡ 9) ↔ ((p : Policy) × (reading file ≡ rules p) × StartCouldNot p)

-- [01:When a number is given instead, 10]: exactly when it is none of those before, and the question names what is absent or breaks its layout
abbrev pub TenIsExact : Type 0
TenIsExact = (file question before after : List ℕ) (t : Told) (n : ℕ) → Means file question before after t n
    → (t.number ≡ 10) ↔ ((p : Policy) × (reading file ≡ rules p) × StartCould p × (AsksSomething p question → ⊥))

-- [01:When a number is given instead, 11]: exactly when it is none of those before, and the row slice is too short
abbrev pub ElevenIsExact : Type 0
ElevenIsExact = (file question before after : List ℕ) (t : Told) (n : ℕ) → Means file question before after t n
    → (t.number ≡ 11) ↔ ((p : Policy) × (reading file ≡ rules p) × StartCould p × AsksSomething p question × RowsTooFew p (length before))

-- [Demand 1, "Accepted, and brought to a verdict or a new state: all the others"]
pub record AcceptedIsJudged : Type 0 where
  -- a verdict exactly when the file is the writing of some rules, its starting sessions could have been brought about, something is asked, and
  -- the rows are enough
  pub verdict : (file question before after : List ℕ) (t : Told) (n : ℕ) → Means file question before after t n → Bytes file
      → (t.verdict ≡ no_verdict → ⊥) ↔ ((p : Policy) × (writing p ≡ bytes file) × StartCould p × AsksSomething p question × RowsEnough p (length before))
  -- a start exactly when the file is read and the cells are enough
  pub start : StartIsExact
  -- a step, on cells that code a run's state, exactly when it is laid out as a row, the table permits it, and a number and a cell are left
  pub step : (file : List ℕ) (p : Policy) → reading file ≡ rules p → (s : Lent) (t : State) → Codes (model_of p) s t → (row : ℕ)
      → ((step_in (model_of p) s row).refusal ≡ none)
      ↔ (((parts_of row).spare ≡ 0) × ((after : State) × Carried (model_of p) t (row_step row) after) × Room s (row_step row))

-- two policies do the same
pub record Alike (p q : Policy) : Type 0 where
  -- starting leaves the same cells and gives the same number
  pub starts : (sessions items : List ℕ) → started (rules p) sessions items ≡ started (rules q) sessions items
  -- a row does the same to any lent cells
  pub steps : (s : Lent) (row : ℕ) → step_in (model_of p) s row ≡ step_in (model_of q) s row
  -- a replay answers and leaves the same
  pub replays : (question rows sessions items : List ℕ) → replayed (rules p) question rows sessions items ≡ replayed (rules q) question rows sessions items
  -- every question gets the same number, verdict and counts
  pub answers : (question : List ℕ) (room : ℕ) → told (rules p) question room ≡ told (rules q) question room
  -- the same can never be granted
  pub never : (who : Who) (which : Which) (permission : ℕ) → Never p who which permission ↔ Never q who which permission
  -- as many rows are needed
  pub needed : rows_needed p ≡ rows_needed q

-- [02:T-01, "Verdicts mean what they did"]: rules do what the same rules do with every attribute of list 0
abbrev pub VerdictsMeanWhatTheyDid : Type 0
VerdictsMeanWhatTheyDid = (p : Policy) → Alike (unlisted_policy p) p
