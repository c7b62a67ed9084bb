-- The claims of specs/Claims.antt, one line each.
use mathlib.Core.List.{[]}
use Rattle.runs.specs.Claims.{StepComputes, NoStepIsNoLeak, NeverIsExact, SessionCountIsExact, ItemCountIsExact, CountsAreExact, CouldIsReach, BroughtIsCould, LeakIsShort, RowsAreEnough}
use Rattle.runs.specs.State.{begin}
use Rattle.runs.proofs.Laws.{stepped-carried, carried-stepped}
use Rattle.runs.proofs.Decide.{leak-risk, risk-within, within-leak, session-stands, item-stands, none-brought}
use Rattle.runs.proofs.Never.{no-step-no-leak, no-leak-no-step}
use Rattle.runs.proofs.Short.{short-leak}
use Prim.Native.Nat.{◌^◌}

pub step-computes : StepComputes
step-computes m s p after = (stepped-carried m s p after, carried-stepped m s p after)

pub no-step-is-no-leak : NoStepIsNoLeak
no-step-is-no-leak m start who which permission = (no-step-no-leak m start who which permission, no-leak-no-step m start who which permission)

pub never-is-exact : NeverIsExact
never-is-exact m start b who which q a c = (leak-risk m start b who which q a c, λ r. within-leak m start (risk-within m start who which q c r))

pub session-count-is-exact : SessionCountIsExact
session-count-is-exact = session-stands

pub item-count-is-exact : ItemCountIsExact
item-count-is-exact = item-stands

pub counts-are-exact : CountsAreExact
counts-are-exact = (session-count-is-exact, item-count-is-exact)

pub could-is-reach : CouldIsReach
could-is-reach m items u v = session-stands m (begin [] items) (none-brought m items) u v

pub brought-is-could : BroughtIsCould
brought-is-could m start = (λ b k u v e. (could-is-reach m start.items u v).1 (b k u v e), λ r k u v e. (could-is-reach m start.items u v).0 (r k u v e))

pub leak-is-short : LeakIsShort
leak-is-short m start b n k w who which q a c l = short-leak m start b n k w who which q c (leak-risk m start b who which q a c l)

pub rows-are-enough : RowsAreEnough
rows-are-enough m start b s o = leak-is-short m start b (2 ^ s) (2 ^ o)
