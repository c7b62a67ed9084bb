-- `leaves::values::number_in` meets its contract.
use mathlib.Core.Path.{ap, ◌∙◌}
use Prim.Native.Nat.{ℕ, ◌+◌, ◌*◌, ◌%◌, ◌^◌}
use native.Mathlib.Omega.{arith}
use Rattle.leaves.proofs.Joins.{number-wide, shifted-few, number-narrow}
use Rattle.leaves.proofs.values.number_in.Goals as goal

pub returns-then-o-ge8 : goal.returns-then-o-ge8
returns-then-o-ge8 c =
    let a = c.args in
    c.part_of-part.ensures ∙ number-wide a.o a.v (omega arith) c.if-o-ge8.true

pub overflow_add-result : goal.overflow_add-result
overflow_add-result c =
    let a = c.args in
    omega (arith, shifted-few a.o a.v c.high.result (omega arith) (omega (arith, c.if-o-ge8.false)))

pub returns : goal.returns
returns c =
    let a = c.args in
    let h = c.high in
    ap (λ (p : ℕ). h.result * 2 ^ a.o.bits % 2 ^ 64 + p) c.part_of-part.ensures
    ∙ number-narrow a.o a.v h.result (omega arith) (omega (arith, c.if-o-ge8.false)) h.ensures
