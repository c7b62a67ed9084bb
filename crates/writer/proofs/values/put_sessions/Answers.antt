-- `writer::values::put_sessions` meets its contract. The loop's invariant: the first i sessions are stored, in no more than 65029 bits each.
use mathlib.Core.Path.{◌≡◌, refl}
use native.Mathlib.Omega.{arith}
use Rattle.format.proofs.Store.{stores-rows-begin, stores-rows-turn, stores-rows-stop, stores-given}
use Rattle.policy.specs.Rules.{session_at, sessions_of}
use Rattle.writer.proofs.values.put_sessions.Goals as goal

pub loop-i-init : goal.loop-i-init
loop-i-init c = (omega arith, stores-rows-begin _ (session_at c.args.sessions))

pub loop-i-preserved : goal.loop-i-preserved
loop-i-preserved c =
    let l = c.loop-i in
    (omega (arith, c.in_ok-next.ensures.pos_bound), stores-rows-turn _ (session_at c.args.sessions) l.i refl c.session.ensures l.invariant.1 c.in_ok-next.ensures.stores)

pub returns-in_err-next-clause-stores : goal.returns-in_err-next-clause-stores
unfolding sessions_of
returns-in_err-next-clause-stores c =
    let l = c.loop-i in
    stores-given c.from_residual.ensures.1 (stores-rows-stop _ (session_at c.args.sessions) l.i _ c.loop-i-test.true refl c.session.ensures l.invariant.1 c.in_err-next.ensures.stores)

pub returns-clause-stores : goal.returns-clause-stores
unfolding sessions_of
returns-clause-stores c =
    let l = c.loop-i in
    let e : l.i ≡ c.args.sessions.count = omega arith in
    rw e at l.invariant.1
