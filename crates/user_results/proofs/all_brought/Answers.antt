-- `all_brought` meets its contract. The loop's invariant: the sessions below k were found.
use Rattle.std.proofs.Common.{◌<◌, ◌≤◌, length, sym, ap, ◌∙◌, arith}
use Rattle.lanes.specs.Lanes.{lane_of}
use Rattle.policy.specs.Policy.{Session}
use Rattle.policy.specs.Rules.{sessions_of}
use Rattle.search.specs.Queue.{nothing}
use Rattle.search.specs.declared.queue.Found.{Found}
use Rattle.policy.proofs.Laws.{sessions-at, sessions-length}
use Rattle.user_results.proofs.Starts.{found_all, found-not, brought, brought-none}
use Rattle.user_results.proofs.all_brought.Goals as goal

pub returns-then-not-has : goal.returns-then-not-has
returns-then-not-has c =
    let users = c.args.users.now in
    let t = c.args.starting.now in
    let l = c.loop-k in
    let d : Session = record { user = 0; value = 0 } in
    let session = c.session-session in
    found-not users d (sessions_of t) l.k (omega (arith, sessions-length t))
    (ap (brought users) (sessions-at t l.k d (omega arith) ∙ sym session.ensures)
    ∙ sym (ap (λ (q : Found). lane_of q.seen session.result.value) (c.in-Some.ensures.lookup.3.1 nothing)) ∙ sym c.has.ensures ∙ c.if-not-has.true)

pub returns-in_default : goal.returns-in_default
returns-in_default c =
    let users = c.args.users.now in
    let t = c.args.starting.now in
    let l = c.loop-k in
    let d : Session = record { user = 0; value = 0 } in
    let session = c.session-session in
    let past : length users ≤ session.result.user = rw c.in_default.is at c.get.ensures.lookup.3 in
    found-not users d (sessions_of t) l.k (omega (arith, sessions-length t))
    (ap (brought users) (sessions-at t l.k d (omega arith) ∙ sym session.ensures) ∙ brought-none users _ _ past)

pub returns : goal.returns
returns c =
    let users = c.args.users.now in
    let t = c.args.starting.now in
    let l = c.loop-k in
    let d : Session = record { user = 0; value = 0 } in
    found_all users d (sessions_of t) (λ k h. let i : k < t.count = omega (arith, sessions-length t) in ap (brought users) (sessions-at t k d i) ∙ l.invariant k (omega arith))
