-- `helpers` meets its contract. The loop's invariant: the lanes of those searches that it has gone over.
use Rattle.lanes.specs.Lanes.{Lanes}
use Rattle.user_results.proofs.Laws.{some_has}
use Rattle.user_results.proofs.helpers.Given as goal

abbrev pub invariant-loop-q : goal.invariant-loop-q
invariant-loop-q l = Lanes (some_has l.users l.q-index) l.all
