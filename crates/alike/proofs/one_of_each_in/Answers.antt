-- `alike::one_of_each_in` meets its contract. The loop's invariant: of the values that are no longer to come the last of each kind has been chosen.
use mathlib.Core.Path.{sym, ◌∙◌}
use Rattle.alike.proofs.Asking.{asking-start, asking-met, asking-more, asking-end}
use Rattle.alike.proofs.one_of_each_in.Goals as goal

pub loop-v-init : goal.loop-v-init
loop-v-init c = rw (c.into_iter-v-iterator.ensures.into_iter_gives, c.rev-v-items.ensures.source, c.members.ensures) (asking-start _ _ _ _ c.none-r.ensures c.none-met.ensures)

pub loop-v-preserved : goal.loop-v-preserved
loop-v-preserved c = let l = c.loop-v in asking-met _ _ _ l.r l.met _ _ l.invariant c.in-Some.ensures.steps (sym c.has.ensures ∙ c.if-not-has.false)

pub loop-v-preserved-then-not-has : goal.loop-v-preserved-then-not-has
loop-v-preserved-then-not-has c =
    let l = c.loop-v in
    asking-more _ _ _ l.r l.met _ _ l.invariant c.in-Some.ensures.steps c.add-more.result c.add-now_met.result c.add-more.ensures.lanes c.add-now_met.ensures.lanes

pub returns : goal.returns
returns c = let l = c.loop-v in asking-end _ _ _ l.r l.met l.invariant c.in-None.ensures.steps.0
