-- What is proved of steps and runs. The proofs are in proofs/Theorems.antt.
-- Assumes nothing.
use Rattle.std.specs.Prelude.{◌≡◌, ◌↔◌, List, [], ℕ, ◌+◌, ◌*◌, ◌^◌}
use Rattle.std.proofs.Math.Option.{some}
use Rattle.runs.specs.Model.{Model}
use Rattle.runs.specs.State.{opened, Item, State, session_at, begin}
use Rattle.runs.specs.Step.{Step, Carried}
use Rattle.runs.specs.Stepped.{stepped}
use Rattle.runs.specs.Grant.{Who, Which, Leak, NoStepFits}
use Rattle.runs.specs.Reach.{Reach, Brought, WhichReach, AskedWho, AskedWhich, Risk}
use Rattle.runs.specs.Outcome.{SessionStands, ItemStands, Below, LeakWithin}

-- [01:Runs, the list]: what is computed is carried out, and only that, with the state that it gives
abbrev pub StepComputes : Type 0
StepComputes = (m : Model) (s : State) (p : Step) (after : State) → (stepped m s p ≡ some after) ↔ Carried m s p after

-- [Demand 3, "no step in it grants"]: no step of any list grants what is asked exactly when no list and one further step do
abbrev pub NoStepIsNoLeak : Type 0
NoStepIsNoLeak = (m : Model) (start : State) (who : Who) (which : Which) (permission : ℕ)
    → ((steps : List Step) → NoStepFits m start who which permission steps) ↔ (Leak m start who which permission → ⊥)

-- [01:The question]: of any rules and any start that was brought about, some run grants what is asked exactly when the
-- closures hold a session value and an item value that are granted
abbrev pub NeverIsExact : Type 0
NeverIsExact = (m : Model) (start : State) → Brought m start → (who : Who) (which : Which) (permission : ℕ) → AskedWho m start who → AskedWhich m start which
    → Leak m start who which permission ↔ Risk m start who which permission

-- [01:Runs, "The counts are of what stands after some run"]: pairs of user and session value
abbrev pub SessionCountIsExact : Type 0
SessionCountIsExact = (m : Model) (start : State) → Brought m start → (u v : ℕ) → SessionStands m start u v ↔ Reach m u v

-- [01:Runs, "The counts are of what stands after some run"]: values of the asked item, or of some item
abbrev pub ItemCountIsExact : Type 0
ItemCountIsExact = (m : Model) (start : State) → Brought m start → (which : Which) → AskedWhich m start which → (o : ℕ) → ItemStands m start which o ↔ WhichReach m start which o

-- both counts
abbrev pub CountsAreExact : Type 0
CountsAreExact = SessionCountIsExact × ItemCountIsExact

-- [01:Runs, "A user could have brought a session about when .."]: whatever items stand at the start
abbrev pub CouldIsReach : Type 0
CouldIsReach = (m : Model) (items : List Item) (u v : ℕ) → SessionStands m (begin [] items) u v ↔ Reach m u v

-- [01:When a number is given instead, 9]: the premise, said of runs from the same items without the starting sessions
abbrev pub BroughtIsCould : Type 0
BroughtIsCould = (m : Model) (start : State)
    → Brought m start ↔ ((k u v : ℕ) → session_at start k ≡ opened u v → SessionStands m (begin [] start.items) u v)

-- a leak, if there is one at all, needs few rows, whatever two numbers the values are below
abbrev pub LeakIsShort : Type 0
LeakIsShort = (m : Model) (start : State) → Brought m start → (n k : ℕ) → Below m start n k
    → (who : Who) (which : Which) (permission : ℕ) → AskedWho m start who → AskedWhich m start which
    → Leak m start who which permission → LeakWithin m start who which permission (n + k * (n + 1) + 1)

-- [01:The question, the rows that the slice needs]: at session width s and item width o
abbrev pub RowsAreEnough : Type 0
RowsAreEnough = (m : Model) (start : State) → Brought m start → (s o : ℕ) → Below m start (2 ^ s) (2 ^ o)
    → (who : Who) (which : Which) (permission : ℕ) → AskedWho m start who → AskedWhich m start which
    → Leak m start who which permission → LeakWithin m start who which permission (2 ^ s + 2 ^ o * (2 ^ s + 1) + 1)
