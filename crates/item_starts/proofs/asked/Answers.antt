-- `asked` meets its contract. The loop's invariant: the values not found yet before the next one are asked for.
use Rattle.std.proofs.Common.{◌∙◌, refl, true, false}
use Rattle.allowed_rows.specs.Basis.{model_by}
use borrow.Author.Tests.{lt-ltb, le-ltb}
use Rattle.item_starts.proofs.Asking.{asking-start, asking-next}
use Rattle.item_starts.proofs.asked.Goals as goal

pub loop-n-init : goal.loop-n-init
loop-n-init c =
    let a = c.args in
    let e = c.into_iter-n-iterator.ensures.into_iter_gives ∙ c.members-n-items.ensures in
    (c.begin.ensures.ready, asking-start (model_by a.basis.now) a.ready a.queue.now _ _ _ c.requires.in_lists.items c.minus.ensures e)

pub loop-n-preserved-then-by-lt256 : goal.loop-n-preserved-then-by-lt256
loop-n-preserved-then-by-lt256 c =
    let a = c.args in
    let e = c.into_iter-n-iterator.ensures.into_iter_gives ∙ c.members-n-items.ensures in
    let found = asking-next (model_by a.basis.now) a.ready a.queue.now _ _ _ c.requires.in_lists.items c.minus.ensures e in
    (c.allowed.ensures.still_ready, found _ _ _ c.in-Some.n _ c.loop-n.queue _ true c.loop-n.invariant.1 c.in-Some.ensures.steps c.requires.had c.allowed.ensures.lanes c.highest-by.ensures (lt-ltb _ 256 c.if-by-lt256.true) c.push.ensures)

pub loop-n-preserved : goal.loop-n-preserved
loop-n-preserved c =
    let a = c.args in
    let e = c.into_iter-n-iterator.ensures.into_iter_gives ∙ c.members-n-items.ensures in
    let found = asking-next (model_by a.basis.now) a.ready a.queue.now _ _ _ c.requires.in_lists.items c.minus.ensures e in
    (c.allowed.ensures.still_ready, found _ _ _ c.in-Some.n _ c.loop-n.queue _ false c.loop-n.invariant.1 c.in-Some.ensures.steps c.requires.had c.allowed.ensures.lanes c.highest-by.ensures (le-ltb _ 256 c.if-by-lt256.false) refl)
