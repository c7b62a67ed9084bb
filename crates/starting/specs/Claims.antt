-- What is proved of starting. The proofs are in proofs/Theorems.antt.
-- Assumes nothing.
use Rattle.std.specs.Prelude.{◌≡◌, ◌↔◌, List, ℕ, ◌≤◌, length}
use Rattle.std.proofs.Math.Option.{none}
use Rattle.policy.specs.Policy.{Policy}
use Rattle.rules.specs.Answers.{reading, rules}
use Rattle.allowed.specs.Allowed.{model_of}
use Rattle.steps.specs.Codes.{Codes}
use Rattle.starting.specs.Start.{started, beginning}

-- [01:Runs, "It begins with the file's starting ones, all sessions open"]: starting leaves cells that code the beginning of the file's runs
abbrev pub StartIsTheBeginning : Type 0
StartIsTheBeginning = (file : List ℕ) (p : Policy) → reading file ≡ rules p → (sessions items : List ℕ)
    → (started (reading file) sessions items).refusal ≡ none → Codes (model_of p) (started (reading file) sessions items).lent (beginning p)

-- [Demand 1; 01:When a number is given instead, "Starting the monitor gives 15 when .."]: carried out exactly when the file is read and there are at
-- least as many cells as starting sessions, and as starting items
abbrev pub StartIsExact : Type 0
StartIsExact = (file sessions items : List ℕ) → ((started (reading file) sessions items).refusal ≡ none)
    ↔ ((p : Policy) × (reading file ≡ rules p) × (length p.sessions ≤ length sessions) × (length p.items ≤ length items))
