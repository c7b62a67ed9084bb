-- `preparing::places_of` meets its contract. The invariant: the first k places are right.
use mathlib.Core.Path.{◌≡◌}
use lib.ListN.{take}
use Rattle.policy.specs.Rules.{nodes_of}
use Rattle.preparing.proofs.places_of.Given as goal

abbrev pub invariant-loop-k : goal.invariant-loop-k
invariant-loop-k l = take l.k l.node-items ≡ nodes_of l.nodes l.f l.k
