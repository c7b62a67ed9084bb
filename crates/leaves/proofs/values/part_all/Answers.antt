-- `leaves::values::part_all` meets its contract. The loop's invariant: the first z rows are parted.
use mathlib.Core.Path.{◌≡◌, refl, ◌∙◌, subst}
use Prim.Native.Nat.{ℕ}
use native.Mathlib.Omega.{arith}
use Rattle.lanes.specs.Lanes.{lane_of}
use Rattle.bitsets.specs.Rows.{bit_at, Rows}
use Rattle.leaves.specs.Values.{parted}
use Rattle.leaves.proofs.Parts.{parted-start, parted-more}
use borrow.Author.Rules.{rules}
use Rattle.leaves.proofs.values.part_all.Goals as goal

pub loop-z-init : goal.loop-z-init
loop-z-init c = (search rules, parted-start _ _ _ _ record { each = λ a v h. refl })

pub loop-z-preserved : goal.loop-z-preserved
loop-z-preserved c =
    let w = c.part in
    let t = c.loop-z in (
      w.ensures.hot_len_unchanged ∙ t.invariant.0,
      parted-more _ _ _ t.z _ _ c.loop-z-test.true t.invariant.1 w.ensures.rows,
    )

pub returns : goal.returns
returns c =
    let t = c.loop-z in
    let a = c.args in
    let e : t.z ≡ a.n = omega arith in record { rows = subst (λ (k : ℕ). Rows (parted a.n k (lane_of a.p) (bit_at a.hot.now)) t.hot) e t.invariant.1; hot_len_unchanged = t.invariant.0 }
