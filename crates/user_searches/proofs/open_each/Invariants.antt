-- `open_each` meets its contract. The loop's invariant: the rows of the users below u are there, and the formula stays prepared.
use Rattle.std.proofs.Common.{List, [], ℕ}
use Rattle.lanes.specs.Lanes.{Lanes}
use Rattle.allowed_rows.specs.Asked.{OpenPrepared}
use Rattle.user_searches.specs.Opened.{opens_in}
use Rattle.user_searches.proofs.Laws.{Filled}
use Rattle.user_searches.proofs.open_each.Given as goal

abbrev pub invariant-loop-u : goal.invariant-loop-u
invariant-loop-u l = OpenPrepared l.basis l.plan l.area × Filled [] (λ (k : ℕ) (x : List ℕ). Lanes (opens_in l.basis k) x) l.row-items l.u
