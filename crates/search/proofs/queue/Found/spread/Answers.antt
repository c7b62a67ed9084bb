-- `Found::spread` meets its contract. The loop's invariant: the new values of the row before the next one are in.
use Rattle.std.proofs.Common.{◌≡◌, sym, ap, ◌∙◌, arith, length, rules}
use Rattle.lanes.specs.Lanes.{lane_of, Lanes, lowest_of}
use Rattle.lanes.proofs.Laws.{lanes-own, lowest-le, lowest-before, left_all, left-here, left-on, left-next, left-between}
use Rattle.search.specs.Queue.{unmet, spread_to}
use Rattle.search.proofs.Laws.{unmet-lanes, spread-start, spread-next, spread_end}
use Rattle.search.proofs.queue.Found.spread.Goals as goal

pub loop-y-init : goal.loop-y-init
loop-y-init c =
    let a = c.args in
    let x = c.minus in
    let k : length a.row ≡ 4 = search rules in
    let q = a.self.now in
    let F = unmet-lanes (lane_of a.row) q a.row x.result (lanes-own a.row k) x.ensures in
    rw (c.into_iter-y-iterator.ensures.into_iter_gives, c.members-y-items.ensures) (
      left_all x.result,
      spread-start q a.parent a.by (lane_of a.row) (lowest_of x.result) (λ v h. sym (F.each v (omega (arith, lowest-le x.result))) ∙ lowest-before x.result v h),
    )

pub loop-y-preserved : goal.loop-y-preserved
loop-y-preserved c =
    let a = c.args in
    let l = c.loop-y in
    let x = c.minus in
    let k : length a.row ≡ 4 = search rules in
    let q = a.self.now in
    let F = unmet-lanes (lane_of a.row) q a.row x.result (lanes-own a.row k) x.ensures in
    let e = c.into_iter-y-iterator.ensures.into_iter_gives ∙ c.members-y-items.ensures in
    let G : Lanes (unmet (lane_of a.row) q) c.into_iter-y-iterator.result = rw e F in
    let T = c.in-Some.ensures.steps in (
      left-next _ _ _ _ l.invariant.0 T,
      c.push.ensures
          ∙ spread-next q a.parent a.by (lane_of a.row) c.in-Some.y (lowest_of c.next.new.self) _ (l.invariant.1 ∙ ap (spread_to (lane_of a.row) q a.parent a.by) (sym T.1))
          (sym (G.each c.in-Some.y T.0) ∙ left-here _ _ _ _ l.invariant.0 T)
          (left-on _ _ _ _ l.invariant.0 T)
          (λ v i j. sym (G.each v (omega (arith, j, lowest-le c.next.new.self))) ∙ left-between _ _ _ _ l.invariant.0 T v i j),
    )

pub returns : goal.returns
returns c =
    let a = c.args in
    let l = c.loop-y in
    let q = a.self.now in
    l.invariant.1 ∙ ap (spread_to (lane_of a.row) q a.parent a.by) c.in-None.ensures.steps.0 ∙ spread_end q a.parent a.by (lane_of a.row)
