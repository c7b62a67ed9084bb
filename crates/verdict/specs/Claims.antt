-- What is proved of the verdict and the counts. The proofs are in proofs/Theorems.antt.
-- Assumes nothing.
use Rattle.std.specs.Prelude.{◌≡◌, Bool, true, ◌↔◌, ℕ, ◌<◌}
use Rattle.runs.specs.Model.{Model}
use Rattle.runs.specs.State.{State}
use Rattle.runs.specs.Grant.{Who, Which, Leak}
use Rattle.runs.specs.Reach.{Star, Brought, AskedWho, AskedWhich}
use Rattle.runs.specs.Outcome.{SessionStands, ItemStands, Below}
use Rattle.verdict.specs.Closure.{in_table, closure}
use Rattle.verdict.specs.Verdict.{all_brought, pairs, leaks, values}
use Rattle.verdict.specs.Meaning.{Counts}

-- the computed closure is the closure: of any start and edges
abbrev pub ClosureIsComputed : Type 0
ClosureIsComputed = (n : ℕ) (start : ℕ → Bool) (edge : ℕ → ℕ → Bool) (v : ℕ) → v < n
    → (in_table (closure n start edge) v ≡ true) ↔ Star (λ x. (x < n) × (start x ≡ true)) (λ x y. (y < n) × (edge x y ≡ true)) v

-- [01:When a number is given instead, 9]
abbrev pub BroughtIsComputed : Type 0
BroughtIsComputed = (m : Model) (start : State) (n k : ℕ) → Below m start n k → (all_brought m n start.sessions ≡ true) ↔ Brought m start

-- [01:The question]: the verdict is whether some run of any length grants what is asked
abbrev pub VerdictIsComputed : Type 0
VerdictIsComputed = (m : Model) (start : State) (n k : ℕ) → Below m start n k → Brought m start
    → (who : Who) (which : Which) (permission : ℕ) → AskedWho m start who → AskedWhich m start which
    → (leaks m start n k who which permission ≡ true) ↔ Leak m start who which permission

-- [01:The question; Runs, "The counts are of what stands after some run"]: pairs of user and session value
abbrev pub PairsAreCounted : Type 0
PairsAreCounted = (m : Model) (start : State) (n k : ℕ) → Below m start n k → Brought m start
    → Counts (λ (x : ℕ × ℕ). SessionStands m start x.0 x.1) (pairs m n m.users)

-- the same: values of the asked item, or of some item
abbrev pub ValuesAreCounted : Type 0
ValuesAreCounted = (m : Model) (start : State) (n k : ℕ) → Below m start n k → Brought m start
    → (which : Which) → AskedWhich m start which → Counts (ItemStands m start which) (values m start n k which)
