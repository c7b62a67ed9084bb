-- `writer::values::put_value` meets its contract. The loop's invariant: whoever stores what is left by the attributes from i on has stored the
-- whole value; `rest` is how wide those attributes are, and each of the first i took no more than 255 bits.
use mathlib.Core.Path.{◌≡◌}
use Prim.Native.Nat.{◌+◌, ◌*◌, ◌≤◌}
use Rattle.policy.specs.Policy.{width}
use Rattle.writer.proofs.Value.{attrs_from, Onward}
use Rattle.writer.proofs.values.put_value.Given as goal

abbrev pub invariant-loop-i : goal.invariant-loop-i
invariant-loop-i l =
    let class = l.fn.class in
    (l.next ≤ l.at + 255 * l.i) × (l.rest ≡ width (attrs_from class l.i)) × Onward class l.initial.x l.initial.out l.at l.i l.x l.out l.next
