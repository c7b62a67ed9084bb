-- `lanes::Iter::next_back` meets its contract: the last lane is taken, and one lane less is left.
use mathlib.Core.Path.{refl}
use native.Mathlib.Omega.{arith}
use Rattle.lanes.specs.Lanes.{highest_of}
use Rattle.lanes.proofs.Counts.{taken-goes}
use Rattle.lanes.proofs.Laws.{highest-here, highest-le}
use Rattle.lanes.proofs.in_order.IterDoubleEndedIterator.next_back.Goals as goal

pub returns-then-v-lt256-clause-goes : goal.returns-then-v-lt256-clause-goes
returns-then-v-lt256-clause-goes c = rw (← c.self.view_is) (taken-goes highest_of highest-here _ _ _ c.highest-v.ensures c.if-v-lt256.true c.without-self-inside.ensures)

pub returns-clause-steps : goal.returns-clause-steps
returns-clause-steps c = rw (← c.self.view_is) (omega (arith, c.highest-v.ensures, c.if-v-lt256.false, highest-le c.self.inside.rest), refl)
