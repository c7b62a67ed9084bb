-- `writer::formulas::put_nodes` meets its contract. The loop's invariant: the first i nodes are stored, in no more than 20 bits each.
use Prim.Native.Nat.{◌+◌, ◌*◌, ◌≤◌}
use lib.ListN.{length}
use Rattle.std.specs.Prelude.{Ok}
use Rattle.format.specs.Format.{rows}
use Rattle.format.specs.Steps.{Stores}
use Rattle.policy.specs.File.{node_format}
use Rattle.policy.specs.Rules.{lists_of, nodes_of}
use Rattle.writer.proofs.formulas.put_nodes.Given as goal

abbrev pub invariant-loop-i : goal.invariant-loop-i
invariant-loop-i here =
    (here.next ≤ here.at + 20 * here.i)
    × Stores (rows here.i (λ l. node_format (lists_of here.classes) here.f (length l))) (nodes_of here.nodes here.f here.i) here.initial.out here.out here.at (Ok here.next)
