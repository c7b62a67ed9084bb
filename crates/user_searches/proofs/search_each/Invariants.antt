-- `search_each` meets its contract. The loop's invariant: the searches of the users below u are there, and the formula stays prepared.
use Rattle.std.proofs.Common.{◌≡◌, ℕ, cond, ltb}
use Rattle.allowed_rows.specs.Asked.{ChangePrepared}
use Rattle.allowed_rows.specs.Basis.{model_by}
use Rattle.search.specs.Queue.{nothing}
use Rattle.search.specs.Sessions.{sessions_found}
use Rattle.search.specs.declared.queue.Found.{Found}
use Rattle.user_searches.proofs.Laws.{Filled}
use Rattle.user_searches.proofs.search_each.Given as goal

abbrev pub invariant-loop-u : goal.invariant-loop-u
invariant-loop-u l =
    ChangePrepared l.basis l.plan l.area
    × Filled nothing (λ (k : ℕ) (q : Found). q ≡ cond (ltb k (model_by l.basis).users) (sessions_found (model_by l.basis) k) nothing) l.users l.u
