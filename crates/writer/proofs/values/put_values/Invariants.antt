-- `writer::values::put_values` meets its contract. The loop's invariant: the first i values are stored, in no more than 65025 bits each.
use Prim.Native.Nat.{ℕ, ◌+◌, ◌*◌, ◌≤◌}
use lib.ListN.{get_or}
use Rattle.std.specs.Prelude.{Ok}
use Rattle.bits.specs.Packed.{tab}
use Rattle.format.specs.Format.{rows}
use Rattle.format.specs.Steps.{Stores}
use Rattle.policy.specs.File.{value_format}
use Rattle.policy.specs.Rules.{attrs_of}
use Rattle.writer.proofs.values.put_values.Given as goal

abbrev pub invariant-loop-i : goal.invariant-loop-i
invariant-loop-i l =
    (l.next ≤ l.at + 65025 * l.i)
    × Stores (rows l.i (λ _. value_format (attrs_of l.fn.class))) (tab (λ (k : ℕ). get_or l.fn.values.values k 0) 0 l.i) l.initial.out l.out l.at (Ok l.next)
