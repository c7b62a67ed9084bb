-- `formulas::table::constants` meets its contract. The loop's invariant: the places from k on are filled in.
use Prim.Native.Nat.{ℕ, ◌≤◌}
use Rattle.formulas.specs.Parts.{Filling}
use Rattle.formulas.proofs.table.constants.Given as goal

abbrev pub invariant-loop-k : goal.invariant-loop-k
invariant-loop-k l = (l.k ≤ 32) × Filling (λ (i p : ℕ). p) 5 5 l.k l.initial.table l.table
