-- `lanes::highest` meets its contract: the last word that is not 0 has the lane.
use Prim.Native.Nat.{◌-◌}
use native.Mathlib.Omega.{arith}
use borrow.Author.Rules.{rules}
use Rattle.lanes.proofs.Words.{zero-highest, highest-word}
use Rattle.lanes.proofs.highest.Goals as goal

pub returns-then-x-q-ne0 : goal.returns-then-x-q-ne0
returns-then-x-q-ne0 c =
    highest-word c.args.x (c.loop-q.q - 1) (omega arith) c.if-x-q-ne0.true (search rules) (λ i h l. c.loop-q.invariant i (omega arith) l)

pub returns : goal.returns
returns c = zero-highest c.args.x (λ i h. c.loop-q.invariant i (omega arith) h)
