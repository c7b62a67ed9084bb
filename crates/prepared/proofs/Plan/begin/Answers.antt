-- `prepared::Plan::begin` meets its contract: the steps across, then those of the board on the rows that they leave.
use native.Mathlib.Nat.{mod-lt}
use native.Mathlib.Omega.{arith}
use Rattle.bitsets.proofs.Rows.{rows_as}
use Rattle.bitsets.proofs.Steps.{ran-alike}
use Rattle.prepared.specs.Prepared.{begun}
use Rattle.prepared.specs.StepList.{listed}
use Rattle.prepared.proofs.Plan.begin.Goals as goal

pub run-requires : goal.run-requires
run-requires c = λ j l. c.requires.across _ j (mod-lt c.args.o c.args.self.now.outers_in_range.0) l

pub run-requires-2 : goal.run-requires-2
run-requires-2 c =
    λ j l. rw c.run.ensures.area_len_unchanged (c.requires.board _ j (mod-lt c.args.o c.args.self.now.outers_in_range.0) l)

pub returns-clause-rows : goal.returns-clause-rows
unfolding begun
returns-clause-rows c =
    let p = c.args.self.now in
    rows_as _ _ _ c.run-2.ensures.rows
    (λ b v h. ran-alike (listed p.board) 0 _ _ _ (omega (arith, p.outers_in_range, mod-lt c.args.o p.outers_in_range.0)) c.run.ensures.rows.each _ b v h)
