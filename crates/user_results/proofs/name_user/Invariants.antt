-- `name_user` meets its contract. The loop's invariant: the values below v are named anew, and the others are as they were.
use Rattle.user_results.proofs.Laws.{Renamed}
use Rattle.user_results.proofs.name_user.Given as goal

abbrev pub invariant-loop-v : goal.invariant-loop-v
invariant-loop-v l = Renamed l.initial.by l.seen l.u l.asked l.by l.v
