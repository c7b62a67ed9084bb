-- `bitsets::run` meets its contract: the rows are those after the steps so far, and the area's length is kept.
use mathlib.Core.Path.{◌≡◌, refl, ◌∙◌, subst}
use Prim.Native.Nat.{ℕ, ◌+◌, ◌-◌, ◌/◌, ◌%◌}
use native.Mathlib.Omega.{arith}
use lib.ListN.{get_or, take, drop}
use borrow.Author.Rules.{rules}
use Rattle.std.proofs.lemmas.List.{places}
use Rattle.lanes.specs.Lanes.{Lanes, lane_of}
use Rattle.bitsets.specs.Rows.{bit_at, Rows, put}
use Rattle.bitsets.specs.Steps.{row_of, step_says}
use Rattle.bitsets.proofs.Steps.{ran-start, ran-turn}
use Rattle.bitsets.proofs.run.Goals as goal

pub loop-s-init : goal.loop-s-init
loop-s-init c = let a = c.args in (refl, ran-start a.steps.now a.first a.i a.area.now)

pub store-requires : goal.store-requires
unfolding row_of
store-requires c =
    let a = c.args in
    let l = c.loop-s in
    let e : get_or (take (a.first + a.m - a.first) (drop a.first a.steps.now)) l.s-index 0 ≡ get_or a.steps.now (a.first + l.s-index) 0 = search (rules, places) in
    omega (arith, e, l.invariant.0, (c.requires.by_index l.s-index (omega arith)).own)

pub loop-s-preserved : goal.loop-s-preserved
unfolding row_of
loop-s-preserved c =
    let a = c.args in
    let l = c.loop-s in
    let w = c.store in
    let s = get_or a.steps.now (a.first + l.s-index) 0 in
    let e : get_or (take (a.first + a.m - a.first) (drop a.first a.steps.now)) l.s-index 0 ≡ s = search (rules, places) in
    let X : Lanes (step_says (bit_at l.area) a.i s) c.made-x.result = subst (λ (s : ℕ). Lanes (step_says (bit_at l.area) a.i s) c.made-x.result) e c.made-x.ensures in
    let W : Rows (put (s / 4294967296 % 65536) (lane_of c.made-x.result) (bit_at l.area)) w.new.area =
    subst (λ (s : ℕ). Rows (put (s / 4294967296 % 65536) (lane_of c.made-x.result) (bit_at l.area)) w.new.area) e w.ensures.rows in (
      w.ensures.area_len_unchanged ∙ l.invariant.0,
      ran-turn a.steps.now a.first a.i l.s-index (bit_at a.area.now) l.area w.new.area _ (c.requires.by_index l.s-index (omega arith)).index l.invariant.1 X W,
    )
