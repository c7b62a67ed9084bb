-- What a judged step leaves: where it is carried out the next numbers after it and at most one cell that is written, else its number. A cell past the
-- end of its slice is no cell.
-- Assumes nothing.
use Rattle.std.specs.Prelude.{set, Option as Written, Some, None, Result, Ok, Err}
use Rattle.refusal.specs.declared.Refusal.{Refusal}
use Rattle.refusal.specs.Number.{number_of}
use Rattle.live.specs.Lent.{Lent, After, refused, done}
use Rattle.judge.specs.declared.Change.{Change}
use Rattle.judge.specs.declared.Judged.{Judged}

-- a live state with the cell written, if one is
abbrev pub written : Written Change → Lent → Lent
written None s = s
written (Some (Change.Session i c)) s = record { sessions = set s.sessions i c; items = s.items; next = s.next }
written (Some (Change.Item i c)) s = record { sessions = s.sessions; items = set s.items i c; next = s.next }

-- what is left of a live state where the step is done
abbrev pub applied_to : Result Judged Refusal → Lent → After
applied_to (Ok j) s = done (written j.change record { sessions = s.sessions; items = s.items; next = j.next })
applied_to (Err refusal) s = refused (number_of refusal) s
