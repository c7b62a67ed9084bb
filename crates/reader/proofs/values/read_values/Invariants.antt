-- `reader::values::read_values` meets its contract. The loop's invariant: the array holds the values that were read so far, each took at most 8 bits,
-- and reading them all goes on by the reader as it is.
use mathlib.Core.List.{List}
use mathlib.Core.Path.{◌≡◌}
use lib.ListN.{length}
use Prim.Native.Nat.{ℕ, ◌+◌, ◌*◌, ◌≤◌}
use Rattle.format.specs.Format.{Format}
use Rattle.policy.specs.File.{value_format}
use Rattle.policy.specs.Rules.{attrs_of, values_of}
use Rattle.policy.specs.declared.Class.{Class}
use Rattle.reader_head.proofs.Reached.{Reached}
use Rattle.reader.proofs.values.read_values.Given as goal

abbrev pub row : Class → List ℕ → Format ℕ
row class _ = value_format (attrs_of class)

abbrev pub invariant-loop-value : goal.invariant-loop-value
invariant-loop-value l =
    record {
      items : length l.value-items ≡ l.n;
      near : l.reader.bits.at ≤ l.initial.reader.bits.at + 8 * l.value-index;
      reached : Reached (row l.class) l.n l.initial.reader l.reader (values_of record { count = l.value-index; values = l.value-items }) l.value-index;
    }
