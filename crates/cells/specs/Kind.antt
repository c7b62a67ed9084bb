-- The kinds of a step and their numbers [01:Steps 1].
-- Assumes nothing.
use Rattle.std.specs.Prelude.{◌≡◌, ℕ, Result, MatchResult}
use Rattle.refusal.specs.declared.Refusal.{Refusal}
use Rattle.cells.specs.declared.kind.Kind.{Kind}

-- the number of a kind
abbrev pub number_of : Kind → ℕ
number_of Kind.Open = 1
number_of Kind.Close = 2
number_of Kind.ChangeSession = 3
number_of Kind.Make = 4
number_of Kind.ChangeItem = 5
number_of Kind.Access = 6

-- the result is the kind with this number, or 12 where no kind has it
abbrev pub KindOf : ℕ → Result Kind Refusal → Type 0
KindOf number r = MatchResult r (λ kind. number_of kind ≡ number) (λ e. (e ≡ Refusal.Row) × ((kind : Kind) → number_of kind ≡ number → ⊥))
