-- `reader::formulas::read_formulas` meets its contract. The loop's invariant: the arrays hold the formulas that were read so far, each has at most
-- 64 nodes and took at most 1288 bits, and reading them all goes on by the reader as it is.
use mathlib.Core.Path.{◌≡◌}
use mathlib.Core.List.{List}
use Prim.Native.Nat.{ℕ, ◌+◌, ◌*◌, ◌≤◌, ◌<◌}
use lib.ListN.{length, get_or}
use Rattle.format.specs.Format.{Format}
use Rattle.policy.specs.File.{formula_format}
use Rattle.policy.specs.Rules.{lists_of, formulas_of}
use Rattle.policy.specs.declared.Classes.{Classes}
use Rattle.reader_head.proofs.Reached.{Reached}
use Rattle.reader.proofs.formulas.read_formulas.Given as goal

abbrev pub row : Classes → List (List ℕ) → Format (List ℕ)
row classes l = formula_format (lists_of classes) (length l)

abbrev pub invariant-loop-f : goal.invariant-loop-f
invariant-loop-f l =
    record {
      nodes : length l.nodes ≡ 768;
      near : l.reader.bits.at ≤ l.initial.reader.bits.at + 1288 * l.f;
      short : (g : ℕ) → g < l.f → get_or l.lengths g 0 ≤ 64;
      reached : Reached (row l.classes) (length l.initial.lengths) l.initial.reader l.reader (formulas_of l.nodes l.lengths l.f) l.f;
    }
