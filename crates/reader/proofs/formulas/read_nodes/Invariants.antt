-- `reader::formulas::read_nodes` meets its contract. The loop's invariant: the places hold the nodes that were read so far, each took at most 20 bits,
-- and reading them all goes on by the reader as it is.
use mathlib.Core.List.{List}
use Prim.Native.Nat.{ℕ, ◌+◌, ◌*◌, ◌≤◌}
use lib.ListN.{length, take}
use Rattle.format.specs.Format.{Format}
use Rattle.policy.specs.File.{node_format}
use Rattle.policy.specs.Rules.{lists_of}
use Rattle.policy.specs.declared.Classes.{Classes}
use Rattle.reader_head.proofs.Reached.{Reached}
use Rattle.reader.proofs.formulas.read_nodes.Given as goal

abbrev pub row : Classes → ℕ → List ℕ → Format ℕ
row classes f l = node_format (lists_of classes) f (length l)

abbrev pub invariant-loop-i : goal.invariant-loop-i
invariant-loop-i l =
    record {
      near : l.reader.bits.at ≤ l.initial.reader.bits.at + 20 * l.i;
      reached : Reached (row l.classes l.f) (length l.initial.nodes) l.initial.reader l.reader (take l.i l.nodes) l.i;
    }
