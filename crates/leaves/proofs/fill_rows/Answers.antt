-- `leaves::fill_rows` meets its contract. The loop's invariant: the first i rows are filled in.
use mathlib.Core.Path.{◌≡◌, refl, ◌∙◌, subst}
use mathlib.Core.Bool.{Bool}
use Prim.Native.Nat.{ℕ}
use native.Mathlib.Omega.{arith}
use Rattle.planes.specs.Word.{compared_in}
use Rattle.bitsets.specs.Rows.{bit_at, Rows, put_from}
use Rattle.sides.specs.Side.{operand_at}
use Rattle.leaves.proofs.Filled.{from-rows, put-lanes, rows_start, rows_more}
use borrow.Author.Rules.{rules}
use Rattle.leaves.proofs.fill_rows.Goals as goal

pub loop-i-init : goal.loop-i-init
loop-i-init c =
    let w = c.prepare-way.ensures in
    (search rules, rows_start _ _ _, w)

pub row_at-r-requires : goal.row_at-r-requires
row_at-r-requires c =
    let t = c.loop-i in record { filled = (search rules, search rules, record { each = from-rows _ _ _ _ _ t.invariant.1 }); laid = t.invariant.2 }

pub loop-i-preserved : goal.loop-i-preserved
loop-i-preserved c =
    let w = c.store in
    let t = c.loop-i in (
      w.ensures.area_len_unchanged ∙ t.invariant.0,
      rows_more _ t.i _ _ _ _ _ _ t.invariant.1 refl (put-lanes _ _ _ _ _ c.row_at-r.ensures w.ensures.rows) (λ v h. refl),
      t.invariant.2,
    )

pub returns : goal.returns
returns c =
    let t = c.loop-i in
    let a = c.args in
    let e : t.i ≡ a.count = omega arith in
    let g : ℕ → ℕ → Bool = λ i. compared_in a.op (operand_at a.x i) (operand_at a.y i) in record { rows = subst (λ (n : ℕ). Rows (put_from a.base n g (bit_at a.area.now)) t.area) e t.invariant.1; area_len_unchanged = t.invariant.0 }
