-- What starting does to the lent cells [01:Steps, "Starting writes the starting cells"; When a number is given instead]: the file's number,
-- then 15 where the starting sessions or items outnumber the cells; a number leaves the cells as they were.
-- Assumes nothing.
use Rattle.std.specs.Prelude.{List, [], ◌∷◌, ◌++◌, map, ℕ, leb, length, drop}
use Rattle.policy.specs.Policy.{Session, Policy}
use Rattle.policy.specs.Rules.{policy_of, no_rules}
use Rattle.rules.specs.Answers.{Answer, refusal, rules}
use Rattle.runs.specs.State.{State, begin}
use Rattle.cells.specs.Cell.{open_cell, item_cell}
use Rattle.live.specs.Lent.{After, refused, done, tested}
use Rattle.live.specs.declared.Next.{Next}

-- some cells over the front of others
unfoldable pub over : List ℕ → List ℕ → List ℕ
over l cells = l ++ drop (length l) cells

-- the cells of the starting sessions
unfoldable pub session_cells : List Session → List ℕ
session_cells = map (λ (t : Session). open_cell t.user t.value)

-- the cells of the starting items
unfoldable pub item_cells : List ℕ → List ℕ
item_cells = map item_cell

-- where no number is given yet
unfoldable pub nothing_given : Next
nothing_given = record { session = 0; item = 0 }

-- what starting leaves of lent cells
unfoldable pub started : Answer → List ℕ → List ℕ → After
started (refusal n) sessions items = refused n record { sessions = sessions; items = items; next = nothing_given }
started (rules p) sessions items =
    tested ((leb (length p.sessions) (length sessions), 15) ∷ (leb (length p.items) (length items), 15) ∷ [])
    record { sessions = sessions; items = items; next = nothing_given }
    (done
    record {
      sessions = over (session_cells p.sessions) sessions;
      items = over (item_cells p.items) items;
      next = record { session = length p.sessions; item = length p.items };
    })

-- the rules that come with it: those of the file, or those of no file where it can't be read
unfoldable pub start_rules : Answer → Policy
start_rules (refusal n) = policy_of no_rules
start_rules (rules p) = p

-- the state that a run begins with
unfoldable pub beginning : Policy → State
beginning p = begin (map (λ (t : Session). (t.user, t.value)) p.sessions) p.items
