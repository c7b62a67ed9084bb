-- `name_users` meets its contract. The loop's invariant: of the users below u one is named for each value that some of them can have.
use Rattle.std.proofs.Common.{◌≡◌, length, sym, ap, arith, rules}
use Rattle.search.specs.Queue.{nothing}
use Rattle.search.specs.declared.queue.Found.{Found}
use Rattle.std.proofs.lemmas.List.{get_or_default}
use Rattle.user_results.proofs.Laws.{naming-none, naming-more, naming-all}
use Rattle.user_results.proofs.name_users.Goals as goal

pub loop-u-init : goal.loop-u-init
loop-u-init c = naming-none c.args.users.now

pub loop-u-preserved : goal.loop-u-preserved
loop-u-preserved c =
    let a = c.args in
    let users = a.users.now in
    let l = c.loop-u in
    let n : length users ≡ 16 = search rules in
    let same = get_or_default users l.u _ nothing (omega arith) in
    naming-more users l.by _ l.u _ l.invariant (ap (λ (q : Found). q.seen) (sym same)) c.name_user.new.by c.name_user.ensures

pub returns : goal.returns
returns c =
    let users = c.args.users.now in
    let l = c.loop-u in
    let n : length users ≡ 16 = search rules in
    naming-all users l.by l.u (omega arith) l.invariant
