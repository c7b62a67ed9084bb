-- `offer` meets its contract.
use Rattle.std.proofs.Common.{ap, ◌∙◌, ◌+◌, true, false, not}
use Rattle.allowed_rows.specs.Basis.{model_by}
use Rattle.search.proofs.Laws.{cond-on, cond-off, unmet-some, unmet-lanes, spread-modifies}
use Rattle.item_changes.proofs.offer.Goals as goal

pub returns-then-is_none-clause-queue_after : goal.returns-then-is_none-clause-queue_after
returns-then-is_none-clause-queue_after c =
    let a = c.args in
    cond-off _ _ _
    (unmet-some (model_by a.basis.now).item_value a.queue.now a.basis.now.items _ c.requires.in_lists.items c.minus-unmet.ensures _ false c.is_none.ensures
    (ap not c.if-is_none.true))

pub returns-clause-queue_after : goal.returns-clause-queue_after
returns-clause-queue_after c =
    let a = c.args in
    let m = model_by a.basis.now in
    let q = a.queue.now in
    let x = c.minus-unmet in
    let row = c.allowed-row in
    cond-on _ _ _
    (unmet-some m.item_value q a.basis.now.items _ c.requires.in_lists.items x.ensures _ true c.is_none.ensures (ap not c.if-is_none.false))
    (c.spread.ensures
    ∙ spread-modifies q (a.i + 1) a.v x.result row.result m a.v a.o (unmet-lanes m.item_value q a.basis.now.items x.result c.requires.in_lists.items x.ensures)
    row.ensures.lanes)
