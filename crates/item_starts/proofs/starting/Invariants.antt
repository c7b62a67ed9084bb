-- `starting` meets its contract. The loop's invariant: the first j values are gone through.
use Rattle.std.proofs.Common.{◌≡◌}
use Rattle.policy.specs.Rules.{values_of}
use Rattle.search.specs.Items.{start_roots}
use Rattle.item_starts.proofs.starting.Given as goal

abbrev pub invariant-loop-j : goal.invariant-loop-j
invariant-loop-j l = l.queue ≡ start_roots (values_of l.items) l.initial.queue l.j
