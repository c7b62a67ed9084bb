-- `goal::first_pen` meets its contract. The loop's invariant: of the sessions below k those that are kept stand.
use Rattle.std.proofs.Common.{refl, arith}
use Rattle.goal.proofs.Pens.{standing-none, standing-stays, standing-more, pen-ready}
use Rattle.goal.proofs.aim.first_pen.Goals as goal
use Rattle.goal.proofs.aim.first_pen.Goals.{then-number-v-eq0, else-number-v-eq0+else-eq}

pub loop-k-init : goal.loop-k-init
loop-k-init c = standing-none c.args.starting.now

pub loop-k-preserved : goal.loop-k-preserved
loop-k-preserved c =
    let s = c.args.starting.now in
    let l = c.loop-k in
    let session = c.session-session in
    elim c.if-number-v-eq0.branch [
      | then-number-v-eq0 w ↦ rw (w.number-is, w.owner-is) (standing-more s l.number l.owner l.k l.invariant session.result.user session.result.value (omega arith) session.ensures)
      | else-number-v-eq0+else-eq w ↦ rw (w.number-is, w.owner-is) (standing-stays s l.number l.owner l.k l.invariant)
    ]

pub returns-clause-ready : goal.returns-clause-ready
returns-clause-ready c = pen-ready c.args.starting.now _ c.loop-k.k (omega arith) refl refl c.loop-k.invariant
