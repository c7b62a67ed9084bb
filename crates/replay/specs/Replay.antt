-- What a replay answers and leaves [01:When a number is given instead, "replay adds 10, then starts the monitor, then takes the rows"]: the number of
-- the file, 10, start's 15, the number of the first row that fails, and 17 unless the last row is a grant that fits the question. The cells hold
-- what ran.
-- Assumes nothing.
use Rattle.std.specs.Prelude.{Bool, false, true, ◌&&◌, cond, List, [], ◌∷◌, ℕ, eqb, length, get_or}
use Rattle.std.proofs.Math.Option.{Option, none, some}
use Rattle.rules.specs.Answers.{Answer, refusal, rules}
use Rattle.runs.specs.Model.{Model}
use Rattle.runs.specs.State.{Session, closed, opened}
use Rattle.runs.specs.Step.{Step}
use Rattle.runs.specs.Grant.{Who, session, user, anyone, Which, item, anything}
use Rattle.allowed.specs.Allowed.{model_of}
use Rattle.cells.specs.Row.{parts_of as row_parts, step_of}
use Rattle.live.specs.Lent.{Lent, After, refused, lent_as}
use Rattle.steps.specs.Step.{session_now}
use Rattle.starting.specs.Start.{started, nothing_given}
use Rattle.replay.specs.Question.{parts_of, who_of, which_of, asks}
use Rattle.replay.specs.Rows.{rows_in}
use Rattle.replay.specs.declared.question.Question.{Question}

-- a session is one of user a
unfoldable pub is_of : ℕ → Session → Bool
is_of a closed = false
is_of a (opened u v) = eqb u a

-- in the state s session number k is one that is asked about
unfoldable pub who_fits : Model → Lent → Who → ℕ → Bool
who_fits m s (session j) k = eqb k j
who_fits m s (user a) k = is_of a (session_now m s k)
who_fits m s anyone k = true

-- item number k is one that is asked about
unfoldable pub which_fits : Which → ℕ → Bool
which_fits (item j) k = eqb k j
which_fits anything k = true

-- a step that was carried out in the state s is a grant that fits the question
unfoldable pub step_fits : Model → Lent → Question → Step → Bool
step_fits m s q p = eqb p.kind 6 && eqb p.value q.permission && who_fits m s (who_of q) p.actor && which_fits (which_of q) p.target

-- the last of the rows is a grant that fits; an empty leak has none
unfoldable pub last_fits : Model → Lent → Question → List ℕ → Bool
last_fits m s q [] = false
last_fits m s q (row ∷ rows) = step_fits m s q (step_of (row_parts (get_or (row ∷ rows) (length rows) 0)))

-- after the rows ran
unfoldable pub judged : Model → Question → List ℕ → Option ℕ → Lent → After
judged m q rows none s = cond (last_fits m s q rows) (record { refusal = none; lent = s }) (refused 17 s)
judged m q rows (some n) s = refused n s

-- after the start
unfoldable pub played : Model → Question → List ℕ → Option ℕ → Lent → After
played m q rows none s = let r = rows_in m s 0 rows in judged m q rows r.refusal r.lent
played m q rows (some n) s = refused n s

-- the whole: the number that is given instead, if one is, and what the lent cells hold
unfoldable pub replayed : Answer → List ℕ → List ℕ → List ℕ → List ℕ → After
replayed (refusal n) question rows sessions items = refused n (lent_as sessions items nothing_given)
replayed (rules p) question rows sessions items =
    let s = started (rules p) sessions items in
    cond (asks p question) (played (model_of p) (parts_of question) rows s.refusal s.lent) (refused 10 (lent_as sessions items nothing_given))
