-- `reader::values::read_sessions` meets its contract: each session that is read is one more row.
use mathlib.Core.Path.{◌≡◌, ap}
use mathlib.Core.List.{List, ◌++◌}
use Prim.Native.Nat.{ℕ, ◌≤◌}
use native.Mathlib.Omega.{arith}
use borrow.Author.Rules.{rules}
use lib.ListN.{length, length-take, get_or-append}
use Rattle.bits.proofs.Packed.{tab-ext}
use Rattle.format.proofs.Chain.{refused}
use Rattle.policy.specs.Rules.{as_session, no_session, session_at, sessions_of}
use Rattle.policy.specs.declared.Session.{Session as StartingSession}
use Rattle.policy.proofs.Laws.{sessions-none, sessions-more}
use Rattle.reader_head.proofs.Reached.{reached-none, reached-more, reached-stops, reached-all}
use Rattle.reader.proofs.values.read_sessions.Invariants.{row}
use Rattle.reader.proofs.values.read_sessions.Goals as goal

-- the sessions that count are in front
sessions-front : (front back : List StartingSession) (m n : ℕ) → m ≡ n → n ≤ length front →
    sessions_of record { count = m; sessions = front ++ back } ≡ sessions_of record { count = n; sessions = front }
unfolding sessions_of session_at
sessions-front front back m n e h = rw e (tab-ext _ _ 0 n (λ k l. ap as_session (get_or-append front back no_session k (omega arith))))

pub loop-session-init : goal.loop-session-init
loop-session-init c =
    let a = c.args in
    record { items = simp length-take (omega arith); near = omega arith; reached = reached-none (row a.user_count a.class) a.n a.reader.now _ (sessions-none _) }

pub returns-in_err-session-clause-reads : goal.returns-in_err-session-clause-reads
returns-in_err-session-clause-reads c =
    let l = c.loop-session in
    let a = c.args in
    refused _ c.from_residual.result c.from_residual.ensures.1
    (reached-stops (row a.user_count a.class) a.n a.reader.now l.reader _ _ l.session-index _ _ (omega arith) l.invariant.reached 384 c.in_err-session.ensures.reads (omega arith)) (omega arith)

pub loop-session-preserved : goal.loop-session-preserved
loop-session-preserved c =
    let l = c.loop-session in
    let a = c.args in record {
      items = search rules;
      near = omega arith;
      reached = reached-more (row a.user_count a.class) a.n a.reader.now l.reader _ _ l.session-index _ _ (omega arith) l.invariant.reached _ _ c.in_ok-session.ensures.reads
          (sessions-more l.session-items l.session-index _ (omega arith));
    }

pub returns-clause-reads : goal.returns-clause-reads
returns-clause-reads c =
    let l = c.loop-session in
    let a = c.args in
    reached-all (row a.user_count a.class) a.n a.reader.now l.reader _ l.session-index _ _ (omega arith) l.invariant.reached
    (sessions-front _ _ a.n l.session-index (omega arith) (omega arith)) (omega arith)
