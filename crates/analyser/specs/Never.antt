-- What demand 3 speaks of, said of runs: never; a starting session that its user could have brought about; rows enough for a leak.
-- Assumes nothing.
use Rattle.std.specs.Prelude.{List, [], ℕ, ◌+◌, ◌*◌, ◌^◌, ◌≤◌, ◌<◌, length}
use Rattle.policy.specs.Policy.{Policy, width}
use Rattle.lists.specs.Sound.{starting_session}
use Rattle.runs.specs.Step.{Step}
use Rattle.runs.specs.Grant.{Who, Which, NoStepFits}
use Rattle.runs.specs.Outcome.{SessionStands}
use Rattle.allowed.specs.Allowed.{model_of}
use Rattle.starting.specs.Start.{beginning}
use Rattle.replay.specs.Asked.{Asked}

-- [Demand 3]: of every list of steps, of any length, run from the file's start, no step in it grants what is asked
abbrev pub Never : Policy → Who → Which → ℕ → Type 0
Never p who which permission = (steps : List Step) → NoStepFits (model_of p) (beginning p) who which permission steps

-- the same file without its starting sessions
unfoldable pub without_sessions : Policy → Policy
without_sessions p =
    let h = p.head in
    record {
      head = record { user_attrs = h.user_attrs; session_attrs = h.session_attrs; item_attrs = h.item_attrs; users = h.users; sessions = 0; items = h.items; permissions = h.permissions };
      lists = p.lists;
      users = p.users;
      sessions = [];
      items = p.items;
      formulas = p.formulas;
    }

-- [01:Runs, "A user could have brought a session about when .."]: some run of the same file without its starting sessions has one of user u with
-- value v open
abbrev pub CouldBring : Policy → ℕ → ℕ → Type 0
CouldBring p = SessionStands (model_of (without_sessions p)) (beginning (without_sessions p))

-- every starting session its user could have brought about
abbrev pub StartCould : Policy → Type 0
StartCould p = (k : ℕ) → k < length p.sessions → CouldBring p (starting_session p k).user (starting_session p k).value

-- some starting session its user could not
abbrev pub StartCouldNot : Policy → Type 0
StartCouldNot p = (k : ℕ) × (k < length p.sessions) × (CouldBring p (starting_session p k).user (starting_session p k).value → ⊥)

-- the question asks something of the rules
abbrev pub AsksSomething : Policy → List ℕ → Type 0
AsksSomething p question = (who : Who) × (which : Which) × (permission : ℕ) × Asked p question who which permission

-- [01:The question, "With session width s and item width o, the slice needs .."]
abbrev pub rows_by_widths : Policy → ℕ
rows_by_widths p =
    let s = width p.lists.of_session in
    let o = width p.lists.of_item in
    2 ^ s + 2 ^ o * (2 ^ s + 1) + 1

-- there are so many rows
abbrev pub RowsEnough : Policy → ℕ → Type 0
RowsEnough p room = rows_by_widths p ≤ room

-- there are fewer
abbrev pub RowsTooFew : Policy → ℕ → Type 0
RowsTooFew p room = room < rows_by_widths p
