-- `prepared::Plan::row_at` meets its contract: the steps of the rows, then the last node's row.
use native.Mathlib.Nat.{mod-lt}
use Rattle.lanes.proofs.Laws.{lanes-as}
use Rattle.prepared.specs.Prepared.{rowed}
use Rattle.prepared.proofs.Plan.row_at.Goals as goal

pub run-requires : goal.run-requires
run-requires c = λ j l. c.requires.row _ j (mod-lt c.args.r c.args.self.now.rows_in_range.0) l

pub returns-clause-rows : goal.returns-clause-rows
unfolding rowed
returns-clause-rows c = c.run.ensures.rows

pub returns-clause-lanes : goal.returns-clause-lanes
unfolding rowed
returns-clause-lanes c = lanes-as _ _ _ c.load.ensures (λ v h. c.run.ensures.rows.each _ v h)
