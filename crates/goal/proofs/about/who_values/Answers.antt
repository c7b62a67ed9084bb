-- `goal::who_values` meets its contract where a user is asked about that is there.
use Rattle.std.proofs.Common.{◌≡◌, ap, ◌∙◌, length, arith, rules}
use Rattle.lanes.specs.Lanes.{lane_of}
use Rattle.lanes.proofs.Laws.{lanes-as}
use Rattle.search.specs.Queue.{nothing}
use Rattle.search.specs.declared.queue.Found.{Found}
use Rattle.goal.proofs.Questions.{who-user}
use Rattle.goal.proofs.about.who_values.Goals as goal

pub returns-in-Some : goal.returns-in-Some
returns-in-Some c =
    let a = c.args in
    let n : length a.users.now ≡ 16 = search rules in
    let found = c.in-Some.ensures.lookup.3 in
    lanes-as _ _ c.seen_of.result c.seen_of.ensures
    (λ v h.
    ap (λ (q : Found). lane_of q.seen v) (found.1 nothing)
    ∙ who-user a.users.now (lane_of a.helpers) a.own.now a.q v (omega (arith, c.in-1.is)) c.in-1.is (omega (arith, found.0)))
