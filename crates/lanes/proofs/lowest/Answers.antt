-- `lanes::lowest` meets its contract: the first word that is not 0 has the lane.
use native.Mathlib.Omega.{arith}
use borrow.Author.Rules.{rules}
use Rattle.lanes.proofs.Words.{zero-lowest, lowest-word}
use Rattle.lanes.proofs.lowest.Goals as goal

pub returns-then-w-ne0 : goal.returns-then-w-ne0
returns-then-w-ne0 c = lowest-word c.args.x c.loop-q.q c.loop-q-test.true c.if-w-ne0.true (search rules) c.loop-q.invariant

pub returns : goal.returns
returns c = zero-lowest c.args.x (λ i h. c.loop-q.invariant i (omega arith))
