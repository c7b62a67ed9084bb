-- `Found::ancestor` meets its contract. The loop's invariant: `place` is the place `counter` links before pos.
use Rattle.std.proofs.Common.{◌≡◌}
use Rattle.search.specs.Path.{ancestor}
use Rattle.search.proofs.queue.Found.ancestor.Given as goal

abbrev pub invariant-loop : goal.invariant-loop
invariant-loop l = l.place ≡ ancestor l.self l.counter l.pos
