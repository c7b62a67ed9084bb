-- `first_hit` meets its contract. The loop's invariant: there is no hit at the places before this one, and the formula stays worked out.
use Rattle.std.proofs.Common.{◌≡◌, ◌∙◌, ap, get_or, arith, below_more}
use Rattle.std.proofs.lemmas.List.{get_or-take}
use Rattle.lanes.specs.Lanes.{lane_of}
use Rattle.lanes.proofs.Laws.{lowest-lanes}
use Rattle.allowed_rows.specs.Basis.{model_by}
use Rattle.hits.proofs.Laws.{hit_on, hit_few, hit-here, hit-nowhere}
use Rattle.hits.proofs.first_hit.Goals as goal

pub returns-then-value-lt256 : goal.returns-then-value-lt256
returns-then-value-lt256 c =
    let a = c.args in
    let l = c.loop-place in
    let m = model_by a.basis.now in
    hit-here m a.permission a.q.now a.who a.basis.now.sessions _ c.requires.in_lists.sessions c.and-among.ensures _ l.place c.min.ensures l.invariant.1 _ (omega arith) c.if-value-lt256.true
    (c.lowest-value.ensures ∙ lowest-lanes _ c.allowed.result c.allowed.ensures.lanes ∙ ap (hit_on m a.permission (lane_of c.and-among.result)) (get_or-take c.min.result a.q.now.order l.place 0 (omega arith)))

pub loop-place-preserved : goal.loop-place-preserved
loop-place-preserved c =
    let a = c.args in
    let l = c.loop-place in
    let m = model_by a.basis.now in
    let among = lane_of c.and-among.result in
    let is : c.lowest-value.result ≡ hit_on m a.permission among (get_or a.q.now.order l.place 0) =
    c.lowest-value.ensures ∙ lowest-lanes _ c.allowed.result c.allowed.ensures.lanes ∙ ap (hit_on m a.permission among) (get_or-take c.min.result a.q.now.order l.place 0 (omega arith)) in
    (c.allowed.ensures.still_ready, below_more _ _ l.invariant.1 (omega (arith, is, c.if-value-lt256.false, hit_few m a.permission among (get_or a.q.now.order l.place 0))))

pub returns : goal.returns
returns c =
    let a = c.args in
    let l = c.loop-place in
    hit-nowhere (model_by a.basis.now) a.permission a.q.now a.who a.basis.now.sessions _ c.requires.in_lists.sessions c.and-among.ensures _ l.place c.min.ensures l.invariant.1 (omega arith)
