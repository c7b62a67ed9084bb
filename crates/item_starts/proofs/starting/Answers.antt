-- `starting` meets its contract. The loop's invariant: the first j values are gone through.
use Rattle.std.proofs.Common.{sym, ap, ◌∙◌, not, true, false}
use Rattle.policy.specs.Rules.{values_of}
use Rattle.allowed.proofs.Laws.{value-at}
use Rattle.search.proofs.ItemLaws.{start-start, start-turn}
use Rattle.item_starts.proofs.starting.Goals as goal
use Rattle.item_starts.proofs.starting.Goals.{then-not-has, else-not-has}

pub loop-j-init : goal.loop-j-init
loop-j-init c = start-start (values_of c.args.items.now) c.args.queue.now

pub loop-j-preserved : goal.loop-j-preserved
loop-j-preserved c =
    let a = c.args in
    let l = c.loop-j in
    let value = c.get_or-value in
    let is = value.ensures ∙ sym (value-at a.items.now l.j c.loop-j-test.true) in
    let next = start-turn (values_of a.items.now) a.queue.now l.j value.result l.queue in
    elim c.if-not-has.branch [
      | then-not-has w ↦ rw w.queue-is (w.push.ensures ∙ next true is l.invariant (ap not (sym c.has.ensures ∙ w.if-not-has.true)))
      | else-not-has w ↦ rw w.queue-is (next false is l.invariant (ap not (sym c.has.ensures ∙ w.if-not-has.false)))
    ]
