-- `leaves::values::value_rows` meets its contract. The loop's invariant: the rows are those of the values of the first k bits.
use mathlib.Core.Path.{◌≡◌, subst}
use Prim.Native.Nat.{ℕ, ◌/◌, ◌%◌, ◌^◌}
use native.Mathlib.Omega.{arith}
use borrow.Author.Rules.{rules}
use lib.Pow.{pow_mono}
use Rattle.leaves.specs.Values.{Hot}
use Rattle.sides.proofs.Fields.{one_shl}
use Rattle.leaves.proofs.Parts.{hot-start, hot-more}
use Rattle.leaves.proofs.values.value_rows.Goals as goal

pub loop-k-init : goal.loop-k-init
loop-k-init c = (search rules, hot-start _ _ _ _ c.all.ensures c.store.ensures.rows)

pub part_all-requires : goal.part_all-requires
part_all-requires c = let l = c.loop-k in omega (arith, one_shl l.k (omega arith), pow_mono {i = l.k} {j = 3} (omega arith))

pub loop-k-preserved : goal.loop-k-preserved
loop-k-preserved c = let l = c.loop-k in (search rules, hot-more _ l.k _ _ _ _ (one_shl l.k (omega arith)) c.bit_row.ensures l.invariant.1 c.part_all.ensures.rows)

pub returns : goal.returns
returns c =
    let l = c.loop-k in
    let f = c.args.f in
    let e : l.k ≡ f.bits = omega arith in subst (λ (k : ℕ). Hot (λ v. v / 2 ^ f.shift % 2 ^ k) (2 ^ k) l.hot) e l.invariant.1
