-- `goal::first_pen` meets its contract. The loop's invariant: of the sessions below k those that are kept stand.
use Rattle.goal.proofs.Pens.{Standing}
use Rattle.goal.proofs.aim.first_pen.Given as goal

abbrev pub invariant-loop-k : goal.invariant-loop-k
invariant-loop-k l = Standing l.starting l.number l.owner l.k
