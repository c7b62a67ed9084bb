-- `reader::values::read_value` meets its contract. The loop's invariant: the values of the attributes so far, with what is read for the others, are
-- the value that the format reads, and both fit 8 bits.
use Rattle.reader.proofs.Value.{Partly}
use Rattle.reader.proofs.values.read_value.Given as goal

abbrev pub invariant-loop-i : goal.invariant-loop-i
invariant-loop-i l = Partly l.class l.initial.reader l.reader l.value l.i
