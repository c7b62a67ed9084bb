-- `writer::formulas::put_formulas` meets its contract. The loop's invariant: the first f formulas are stored, in no more than 5108 bits each.
use Prim.Native.Nat.{◌+◌, ◌*◌, ◌≤◌}
use lib.ListN.{length}
use Rattle.std.specs.Prelude.{Ok}
use Rattle.format.specs.Format.{rows}
use Rattle.format.specs.Steps.{Stores}
use Rattle.policy.specs.File.{formula_format}
use Rattle.policy.specs.Rules.{lists_of, formulas_of}
use Rattle.writer.proofs.formulas.put_formulas.Given as goal

abbrev pub invariant-loop-f : goal.invariant-loop-f
invariant-loop-f here =
    (here.next ≤ here.at + 5108 * here.f)
    × Stores (rows here.f (λ l. formula_format (lists_of here.classes) (length l))) (formulas_of here.nodes here.lengths here.f) here.initial.out here.out here.at (Ok here.next)
