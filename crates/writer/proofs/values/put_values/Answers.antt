-- `writer::values::put_values` meets its contract. The loop's invariant: the first i values are stored, in no more than 65025 bits each.
use mathlib.Core.Path.{◌≡◌, refl}
use Prim.Native.Nat.{ℕ}
use native.Mathlib.Omega.{arith}
use lib.ListN.{get_or}
use Rattle.format.proofs.Store.{stores-rows-begin, stores-rows-turn, stores-rows-stop, stores-given}
use Rattle.policy.specs.Rules.{values_of}
use Rattle.writer.proofs.values.put_values.Goals as goal

pub loop-i-init : goal.loop-i-init
loop-i-init c = (omega arith, stores-rows-begin _ (λ (k : ℕ). get_or c.args.values.values k 0))

pub loop-i-preserved : goal.loop-i-preserved
loop-i-preserved c =
    let l = c.loop-i in
    (omega (arith, c.in_ok-next.ensures.pos_bound), stores-rows-turn _ (λ (k : ℕ). get_or c.args.values.values k 0) l.i refl c.value-value.ensures l.invariant.1 c.in_ok-next.ensures.stores)

pub returns-in_err-next-clause-stores : goal.returns-in_err-next-clause-stores
unfolding values_of
returns-in_err-next-clause-stores c =
    let l = c.loop-i in
    stores-given c.from_residual.ensures.1
    (stores-rows-stop _ (λ (k : ℕ). get_or c.args.values.values k 0) l.i _ c.loop-i-test.true refl c.value-value.ensures l.invariant.1 c.in_err-next.ensures.stores)

pub returns-clause-stores : goal.returns-clause-stores
unfolding values_of
returns-clause-stores c =
    let l = c.loop-i in
    let e : l.i ≡ c.args.values.count = omega arith in
    rw e at l.invariant.1
