-- Paper 01's cases marked (P), in one table with one result [01:Counter file, "Marked (P)"]. Each row has the case's number and whether the
-- meanings say what the paper says.
-- Assumes nothing.
use Rattle.std.specs.Prelude.{◌≡◌, Bool, true, not, ◌&&◌, List, [], ◌∷◌, ◌++◌, ℕ, eqb, length, replicate}
use Rattle.bits.specs.Set.{proper_of}
use Rattle.policy.specs.Policy.{Policy, bits_for}
use Rattle.rules.specs.Answers.{Answer, refusal, rules, reading}
use Rattle.runs.specs.Grant.{user, anything}
use Rattle.allowed.specs.Allowed.{model_of}
use Rattle.cells.specs.Row.{bits_of}
use Rattle.cells.specs.declared.row.Row.{Row}
use Rattle.live.specs.Lent.{host_number}
use Rattle.steps.specs.Step.{step_in}
use Rattle.starting.specs.Start.{started}
use Rattle.replay.specs.Replay.{replayed}
use Rattle.analyser.specs.Told.{no_verdict, safe_verdict, leak_verdict, Told}
use Rattle.analyser.specs.Answer.{rows_needed, told}
use Rattle.analyser.specs.Never.{Never}
use Rattle.output.specs.Lines.{line_at}
use Rattle.program.specs.Program.{ProgramMeans}

-- the counter file
unfoldable pub counter_file : List ℕ
counter_file =
    17 ∷ 17 ∷ 0 ∷ 0 ∷ 128 ∷ 132 ∷ 8 ∷ 64 ∷ 8 ∷ 8 ∷ 6 ∷ 80 ∷ 0 ∷ 0 ∷ 101 ∷ 0 ∷ 0 ∷ 5 ∷ 96 ∷ 40 ∷ 0 ∷ 98 ∷ 128 ∷ 128 ∷ 14 ∷ 40 ∷ 8 ∷ 21 ∷ 130 ∷ 132 ∷ 192 ∷ 0 ∷ 64 ∷ []

-- the number that a first step gets where a file's monitor is started with so many cells of each kind
unfoldable pub first_step : Answer → ℕ → Row → ℕ
first_step (refusal n) cells row = n
first_step (rules p) cells row =
    host_number (step_in (model_of p) (started (rules p) (replicate cells 0) (replicate cells 0)).lent (bits_of row)).refusal

-- the row of a step
unfoldable pub row : ℕ → ℕ → ℕ → ℕ → ℕ
row kind actor target value = bits_of record { kind = kind; actor = actor; target = target; value = value; spare = 0 }

-- P2's rows
unfoldable pub shown_rows : List ℕ
shown_rows = row 1 0 0 1 ∷ row 4 0 0 0 ∷ row 5 0 0 1 ∷ row 6 0 0 0 ∷ []

-- P3's: those without the third
unfoldable pub shorter_rows : List ℕ
shorter_rows = row 1 0 0 1 ∷ row 4 0 0 0 ∷ row 6 0 0 0 ∷ []

-- can user 0, or user 1, ever have permission 0 on any item
unfoldable pub of_user0 : List ℕ
of_user0 = 64 ∷ 128 ∷ 0 ∷ []

unfoldable pub of_user1 : List ℕ
of_user1 = 65 ∷ 128 ∷ 0 ∷ []

-- number, verdict and counts
unfoldable pub is_told : Told → ℕ → ℕ → ℕ → ℕ → Bool
is_told t number verdict pairs values = eqb t.number number && (eqb t.verdict verdict && (eqb t.pairs pairs && eqb t.values values))

-- the number that replaying rows of the counter file gets, 0 for replayed
unfoldable pub replay_number : List ℕ → List ℕ → ℕ
replay_number question rows = host_number (replayed (reading counter_file) question rows (replicate 4 0) (replicate 4 0)).refusal

-- rules with one set of 8 for sessions and one for items
unfoldable pub widest : Policy
widest =
    record {
      head = record { user_attrs = 0; session_attrs = 1; item_attrs = 1; users = 0; sessions = 0; items = 0; permissions = 0 };
      lists = record { of_user = []; of_session = record { kind = 1; size = 8; list = 0 } ∷ []; of_item = record { kind = 1; size = 8; list = 0 } ∷ [] };
      users = [];
      sessions = [];
      items = [];
      formulas = [];
    }

-- the marked cases
unfoldable pub table : List (ℕ × Bool)
table =
    -- P1: user 1 never, counts 3 and 2
    (1, is_told (told (reading counter_file) of_user1 9) 0 safe_verdict 3 2)
    -- P2: user 0 can, and the rows replay
    ∷ (2, is_told (told (reading counter_file) of_user0 9) 0 leak_verdict 3 2 && eqb (replay_number of_user0 shown_rows) 0)
    -- P3: without the third row 16 at the last
    ∷ (3, eqb (replay_number of_user0 shorter_rows) 16)
    -- P4: the same rows for the other question: 17
    ∷ (4, eqb (replay_number of_user1 shown_rows) 17)
    -- P5: widths 1 and 1 need 9 rows; 8 give 11
    ∷ (5, is_told (told (reading counter_file) of_user0 9) 0 leak_verdict 3 2 && is_told (told (reading counter_file) of_user0 8) 11 no_verdict 0 0)
    -- P6: atomic size 1 takes 0 bits, 16 takes 4
    ∷ (6, eqb (bits_for record { kind = 0; size = 1; list = 0 }) 0 && eqb (bits_for record { kind = 0; size = 16; list = 0 }) 4)
    -- P7: {} is a proper subset of {0}; {0} is not of {0}; sets of size 1, {0} is the number 1
    ∷ (7, proper_of 1 0 1 1 && not (proper_of 1 1 1 1))
    -- P8: user 1 opening with {0}: 16; user 0 may
    ∷ (
      8,
      eqb (first_step (reading counter_file) 4 record { kind = 1; actor = 1; target = 0; value = 1; spare = 0 }) 16
          && eqb (first_step (reading counter_file) 4 record { kind = 1; actor = 0; target = 0; value = 1; spare = 0 }) 0,
    )
    -- P9: widths 8 and 8 need 66,049 rows
    ∷ (9, eqb (rows_needed widest) 66049)
    ∷ []

-- whether every row of a table holds
unfoldable pub all_hold : List (ℕ × Bool) → Bool
all_hold [] = true
all_hold (r ∷ rs) = r.1 && all_hold rs

-- P1, of runs: of every list of steps, of any length, run from the counter file's start, no step in it grants user 1 permission 0 on any item
abbrev pub CounterNever : Type 0
CounterNever = (p : Policy) → reading counter_file ≡ rules p → Never p (user 1) anything 0

-- [01:Counter file 4]: after hex 41 80 00 the program, which lends 8,192 rows, prints the counter file's answer as the single line `SAFE 3 2`
abbrev pub CounterPrints : Type 0
CounterPrints = (before after : List ℕ) (t : Told) (n : ℕ) → length before ≡ 8192 → ProgramMeans (of_user1 ++ counter_file) before after t n
    → (n ≡ 0) × (line_at t n after 0 ≡ 83 ∷ 65 ∷ 70 ∷ 69 ∷ 32 ∷ 51 ∷ 32 ∷ 50 ∷ 10 ∷ [])

-- every marked case holds
abbrev pub PaperCases : Type 0
PaperCases = (all_hold table ≡ true) × CounterNever
