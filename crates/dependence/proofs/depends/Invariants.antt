-- `dependence::depends` meets its contract. The loop's invariant: d is right for the first k nodes and keeps its length. The measure is what is left
-- of the count.
use mathlib.Core.Path.{◌≡◌}
use Prim.Native.Nat.{◌+◌, ◌*◌, ◌-◌, ◌≤◌}
use lib.ListN.{length, get_or}
use Rattle.dependence.specs.Depends.{Depends}
use Rattle.dependence.proofs.depends.Given as goal

abbrev pub invariant-loop-k : goal.invariant-loop-k
invariant-loop-k l = (l.k ≤ l.n) × (length l.d ≡ length l.initial.d) × Depends (λ i. get_or l.nodes (64 * l.f + i) 0) l.h l.k l.d

abbrev pub decreases-loop-k : goal.decreases-loop-k
decreases-loop-k l = l.n - l.k
