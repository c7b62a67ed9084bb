-- `lanes::Iter::next` meets its contract: the first lane is taken, and one lane less is left.
use mathlib.Core.Path.{refl}
use native.Mathlib.Omega.{arith}
use Rattle.lanes.specs.Lanes.{lowest_of}
use Rattle.lanes.proofs.Counts.{taken-goes}
use Rattle.lanes.proofs.Laws.{lowest-here, lowest-le}
use Rattle.lanes.proofs.in_order.IterIterator.next.Goals as goal

pub returns-then-v-lt256-clause-goes : goal.returns-then-v-lt256-clause-goes
returns-then-v-lt256-clause-goes c = rw (← c.self.view_is) (taken-goes lowest_of lowest-here _ _ _ c.lowest-v.ensures c.if-v-lt256.true c.without-self-inside.ensures)

pub returns-clause-steps : goal.returns-clause-steps
returns-clause-steps c = rw (← c.self.view_is) (omega (arith, c.lowest-v.ensures, c.if-v-lt256.false, lowest-le c.self.inside.rest), refl)
