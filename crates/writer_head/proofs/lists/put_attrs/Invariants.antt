-- `writer_head::lists::put_attrs` meets its contract. The loop's invariant: the first i attributes are stored, in no more than 12 bits each, and
-- the sizes of the lists are those after them.
use mathlib.Core.Path.{◌≡◌}
use Prim.Native.Nat.{◌+◌, ◌*◌, ◌≤◌}
use Rattle.std.specs.Prelude.{Ok}
use Rattle.bits.specs.Packed.{tab}
use Rattle.format.specs.Format.{rows}
use Rattle.format.specs.Steps.{Stores}
use Rattle.policy.specs.File.{sizes_after, attr_format}
use Rattle.policy.specs.Rules.{attr_at}
use Rattle.writer_head.proofs.lists.put_attrs.Given as goal

abbrev pub invariant-loop-i : goal.invariant-loop-i
invariant-loop-i l =
    let first = tab (attr_at l.fn.class) 0 l.i in
    (l.next ≤ l.at + 12 * l.i) × (l.known ≡ sizes_after l.initial.known first) × Stores (rows l.i (λ r. attr_format (sizes_after l.initial.known r))) first l.initial.out l.out l.at (Ok l.next)
