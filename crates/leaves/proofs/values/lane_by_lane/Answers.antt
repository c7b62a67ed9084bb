-- `leaves::values::lane_by_lane` meets its contract. The loop's invariant: the lanes below v of which the comparison holds are in r.
use mathlib.Core.Path.{ap₂, ◌∙◌}
use Prim.Native.Nat.{ℕ}
use native.Mathlib.Omega.{arith}
use Rattle.formulas.specs.Parts.{compared_by}
use Rattle.planes.specs.Word.{compared_in}
use Rattle.leaves.proofs.Joins.{number-says, below-start, below_more, below_end}
use Rattle.leaves.proofs.values.lane_by_lane.Goals as goal

pub loop-v-init : goal.loop-v-init
loop-v-init c = let a = c.args in below-start (compared_in a.op a.x a.y) _ c.none-r.ensures

pub loop-v-preserved : goal.loop-v-preserved
loop-v-preserved c =
    let l = c.loop-v in
    let a = c.args in
    below_more (compared_in a.op a.x a.y) l.r l.v _ _
    (c.compare-on.ensures
    ∙ ap₂ (λ (n k : ℕ). compared_by a.op n a.x.size k a.y.size) c.number_in-a.ensures c.number_in-b.ensures
    ∙ number-says a.op a.x a.y l.v)
    l.invariant c.with_lane-t.ensures

pub returns : goal.returns
returns c =
    let a = c.args in
    let l = c.loop-v in
    below_end (compared_in a.op a.x a.y) l.r l.v (omega arith) l.invariant
