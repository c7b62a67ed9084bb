-- `name_users` meets its contract. The loop's invariant: of the users below u one is named for each value that some of them can have.
use Rattle.user_results.proofs.Laws.{Naming}
use Rattle.user_results.proofs.name_users.Given as goal

abbrev pub invariant-loop-u : goal.invariant-loop-u
invariant-loop-u l = Naming l.users l.by l.u
