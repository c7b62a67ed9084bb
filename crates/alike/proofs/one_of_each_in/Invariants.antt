-- `alike::one_of_each_in` meets its contract. The loop's invariant: of the values that are no longer to come the last of each kind has been chosen.
use Rattle.std.specs.Iterator.Adapters.{rev_source}
use Rattle.alike.proofs.Asking.{Asking}
use Rattle.alike.proofs.one_of_each_in.Given as goal

abbrev pub invariant-loop-v : goal.invariant-loop-v
invariant-loop-v l = Asking l.m l.fn.among (rev_source l.v-iterator) l.r l.met
