-- What the exported calls on live states leave: 0 or paper 01's number, the cells, and the next numbers, which stay where a number is given.
-- Assumes nothing.
use Rattle.std.specs.Prelude.{List, [], ◌∷◌, ℕ}
use Rattle.std.proofs.Math.Option.{Option, none, some}
use Rattle.rules.specs.Answers.{Answer, refusal, rules}
use Rattle.allowed.specs.Allowed.{model_of}
use Rattle.live.specs.Lent.{Lent, After, refused}
use Rattle.starting.specs.Start.{started}
use Rattle.steps.specs.Step.{step_in}
use Rattle.replay.specs.Rows.{Ran, ran_all, further}

-- everything stays where a number is given
unfoldable pub or_kept : Option ℕ → Lent → Lent → Lent
or_kept none s t = t
or_kept (some n) s t = s

-- starting, by what reading the file answers
unfoldable pub host_started : Answer → Lent → After
host_started a s =
    let r = started a s.sessions s.items in
    record { refusal = r.refusal; lent = or_kept r.refusal s r.lent }

-- a step: the file's number before 12 to 16
unfoldable pub host_stepped : Answer → Lent → ℕ → After
host_stepped (refusal n) s row = refused n s
host_stepped (rules p) s row = step_in (model_of p) s row

-- rows one after another, each a step as above, after so many were carried out, up to the first that gives a number
unfoldable pub host_rows : Answer → Lent → ℕ → List ℕ → Ran
host_rows a s done [] = ran_all s done
host_rows a s done (row ∷ rows) =
    let x = host_stepped a s row in
    further x.refusal x.lent done (λ k. host_rows a x.lent k rows)

-- many rows: the file's number, with rows or without; then row by row
unfoldable pub host_steps : Answer → Lent → List ℕ → Ran
host_steps (refusal n) s rows = record { refusal = some n; lent = s; count = 0 }
host_steps (rules p) s rows = host_rows (rules p) s 0 rows
