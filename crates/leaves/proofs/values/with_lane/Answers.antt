-- `leaves::values::with_lane` meets its contract.
use Rattle.leaves.proofs.Joins.{lane-taken, lane-left}
use borrow.Author.Rules.{rules}
use Rattle.leaves.proofs.values.with_lane.Goals as goal

pub returns-then-on : goal.returns-then-on
returns-then-on c = lane-taken c.args.on c.args.v _ _ c.if-on.true c.add.ensures.lanes

pub returns : goal.returns
returns c = lane-left c.args.on c.args.v _ c.if-on.false (search rules)
