-- `leaves::values::joined` meets its contract. The loop's invariant: the lanes whose value is below k and of which the comparison holds.
use mathlib.Core.Path.{◌≡◌, sym, subst}
use mathlib.Core.Bool.{Bool, ◌&&◌}
use Prim.Native.Nat.{ℕ, ◌*◌, ◌%◌, ◌^◌}
use native.Mathlib.Omega.{arith}
use lib.Dec.{ltb}
use lib.Pow.{pow_mono}
use Rattle.lanes.specs.Lanes.{Lanes}
use Rattle.sides.proofs.Fields.{one_shl}
use Rattle.leaves.specs.Values.{Hot, sided}
use Rattle.leaves.proofs.Joins.{join-start, join_more, join-end}
use Rattle.leaves.proofs.values.joined.Invariants.{field}
use Rattle.leaves.proofs.values.joined.Goals as goal

pub overflow_shl-count : goal.overflow_shl-count
overflow_shl-count c = omega (arith, c.requires.0)

pub loop-k-init : goal.loop-k-init
loop-k-init c =
    let a = c.args in
    let e = one_shl a.x.bits (omega (arith, c.requires.0)) in (
      omega (arith, e, pow_mono {i = a.x.bits} {j = 4} c.requires.0),
      subst (λ (n : ℕ). Hot (field a.x) n a.hot.now) (sym e) c.requires.1,
      join-start (field a.x) (λ (z : ℕ). sided a.second a.op z a.x.size a.y a.n) _ c.none-r.ensures,
    )

pub with_row-t-requires : goal.with_row-t-requires
with_row-t-requires c =
    let l = c.loop-k in
    omega (arith, l.invariant.0, c.loop-k-test.true)

pub loop-k-preserved : goal.loop-k-preserved
loop-k-preserved c =
    let l = c.loop-k in
    let a = c.args in (
      l.invariant.0,
      l.invariant.1,
      join_more (field a.x) (λ (z : ℕ). sided a.second a.op z a.x.size a.y a.n) l.r _ l.k c.says-on.result a.hot.now _ l.invariant.1
          c.loop-k-test.true c.says-on.ensures l.invariant.2 c.with_row-t.ensures,
    )

pub returns : goal.returns
returns c =
    let l = c.loop-k in
    let a = c.args in
    let g : ℕ → Bool = λ z. sided a.second a.op z a.x.size a.y a.n in
    let e : l.k ≡ 1 * 2 ^ a.x.bits % 2 ^ 64 = omega arith in
    join-end (field a.x) g l.r _ a.hot.now l.invariant.1 (subst (λ (k : ℕ). Lanes (λ v. ltb (field a.x v) k && g (field a.x v)) l.r) e l.invariant.2)
