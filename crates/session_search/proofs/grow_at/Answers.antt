-- `grow_at` meets its contract: place i is worked off, unless there is none or nothing is left to find.
use Rattle.std.proofs.Common.{ap, ◌∙◌, ◌+◌, true, false, not, get_or}
use Rattle.allowed_rows.specs.Basis.{model_by}
use Rattle.search.proofs.Laws.{cond-on, cond-off, more-at, unmet-lanes, spread-changes}
use Rattle.session_search.proofs.grow_at.Goals as goal

pub returns-then-is_none-clause-queue_after : goal.returns-then-is_none-clause-queue_after
returns-then-is_none-clause-queue_after c =
    let a = c.args in
    cond-off _ _ _
    (more-at (model_by a.basis.now).session_value a.queue.now a.basis.now.sessions _ c.requires.in_lists.sessions c.minus-unmet.ensures a.i _ false
    c.if-queue-i.false c.is_none.ensures (ap not c.if-is_none.true))

pub returns-clause-queue_after : goal.returns-clause-queue_after
returns-clause-queue_after c =
    let a = c.args in
    let m = model_by a.basis.now in
    let q = a.queue.now in
    let x = c.minus-unmet in
    let row = c.allowed-row in
    cond-on _ _ _
    (more-at m.session_value q a.basis.now.sessions _ c.requires.in_lists.sessions x.ensures a.i _ true c.if-queue-i.false c.is_none.ensures (ap not c.if-is_none.false))
    (c.spread.ensures
    ∙ spread-changes q (a.i + 1) 0 x.result row.result m a.u (get_or q.order a.i 0)
    (unmet-lanes m.session_value q a.basis.now.sessions x.result c.requires.in_lists.sessions x.ensures) row.ensures.lanes)
