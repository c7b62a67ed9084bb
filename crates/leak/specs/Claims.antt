-- What is proved of the rows of a leak. The proofs are in proofs/Theorems.antt.
-- Assumes nothing.
use Rattle.std.specs.Prelude.{◌≡◌, List, [], ℕ, ◌+◌, ◌*◌, ◌≤◌, length}
use Rattle.runs.specs.Model.{Model}
use Rattle.runs.specs.State.{State}
use Rattle.runs.specs.Grant.{Who, Which}
use Rattle.runs.specs.Outcome.{Below}
use Rattle.cells.specs.Leak.{IsLeak}
use Rattle.search.specs.declared.queue.Found.{Found}
use Rattle.session_rows.specs.Writing.{Writing}
use Rattle.leak.specs.Leak.{leak_written}
use Rattle.leak.specs.Standing.{Stands, Aimed}
use Rattle.leak.specs.declared.Aim.{Aim}

-- [01:The question; Demand 3]: what is written is a leak, within the paper's number of rows: the values of sessions are below n, those of items
-- below k, and n and k are at most 256
abbrev pub LeakIsWritten : Type 0
LeakIsWritten = (m : Model) (start : State) (n k room : ℕ) → Below m start n k → n ≤ 256 → k ≤ 256 → n + k * (n + 1) + 1 ≤ room
    → (users : List Found) (by : List ℕ) (q : Found) (pos : ℕ) (own : Found) (a : Aim) (who : Who) (which : Which)
    → Aimed m start users by q pos own a who which → (w : Writing) → w.rows ≡ [] → Stands m start w start
    → IsLeak m start who which a.permission (leak_written room users by q pos own a w).rows
    × (length (leak_written room users by q pos own a w).rows ≤ n + k * (n + 1) + 1)
