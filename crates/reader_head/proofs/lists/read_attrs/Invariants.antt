-- `reader_head::lists::read_attrs` meets its contract. The loop's invariant: the array holds the attributes that were read so far, the sizes of the lists
-- are those after them, each took at most 12 bits, and reading them all goes on by the reader as it is.
use mathlib.Core.Path.{◌≡◌}
use mathlib.Core.List.{List}
use Prim.Native.Nat.{ℕ, ◌+◌, ◌*◌, ◌≤◌}
use lib.ListN.{length}
use Rattle.format.specs.Format.{Format}
use Rattle.policy.specs.Policy.{Attr}
use Rattle.policy.specs.File.{sizes_after, attr_format}
use Rattle.policy.specs.Rules.{attrs_of}
use Rattle.reader_head.proofs.Reached.{Reached}
use Rattle.reader_head.proofs.lists.read_attrs.Given as goal

abbrev pub row : List ℕ → List Attr → Format Attr
row known l = attr_format (sizes_after known l)

abbrev pub invariant-loop-i : goal.invariant-loop-i
invariant-loop-i l =
    let read = attrs_of record { count = l.i; attributes = l.attributes } in
    record {
      size : length l.attributes ≡ 8;
      near : l.reader.bits.at ≤ l.initial.reader.bits.at + 12 * l.i;
      known : l.known ≡ sizes_after l.initial.known read;
      reached : Reached (row l.initial.known) l.n l.initial.reader l.reader read l.i;
    }
