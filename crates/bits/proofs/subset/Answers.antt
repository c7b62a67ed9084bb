-- `bits::subset` meets its contract: with member 0 of both sets at bit 7, a subset has no bit that the other lacks.
use Prim.Native.Nat.{◌≤◌}
use native.Mathlib.Omega.{arith}
use Rattle.bits.proofs.Set.{size-le, shift-mask, mask-subset}
use Rattle.bits.proofs.subset.Goals as goal

-- no size is above 8
sizes : (c : goal.After-size_of-q) → (c.size_of-p.result ≤ 8) × (c.size_of-q.result ≤ 8)
sizes c = let a = c.args in (omega (arith, size-le a.n), omega (arith, size-le a.m))

pub overflow_sub-a : goal.overflow_sub-a
overflow_sub-a c = omega (arith, sizes c)

pub overflow_sub-b : goal.overflow_sub-b
overflow_sub-b c = omega (arith, sizes c)

pub returns : goal.returns
returns c =
    let a = c.args in
    simp (c.size_of-p.ensures, c.size_of-q.ensures, shift-mask a.n a.x, shift-mask a.m a.y) (mask-subset a.n a.x a.m a.y)
