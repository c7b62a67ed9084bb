-- `alike::formula_mask` meets its contract. The loop's invariant: m has the bits of the first k nodes.
use Prim.Native.Nat.{ℕ, ◌+◌, ◌*◌, ◌<◌}
use lib.ListN.{get_or}
use Rattle.alike.specs.Mask.{KeepsNode}
use Rattle.alike.proofs.formula_mask.Given as goal

abbrev pub invariant-loop-k : goal.invariant-loop-k
invariant-loop-k l = (i : ℕ) → i < l.k → KeepsNode l.shifts l.bits (get_or l.nodes (64 * l.f + i) 0) l.m
