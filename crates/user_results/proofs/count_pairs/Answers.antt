-- `count_pairs` meets its contract. The loop's invariant: the pairs of those searches that it has gone over are counted.
use Rattle.std.proofs.Common.{◌≡◌, ◌+◌, length, sym, ap, ap₂, ◌∙◌, arith, rules}
use Rattle.search.specs.Queue.{nothing}
use Rattle.search.specs.declared.queue.Found.{Found}
use Rattle.std.proofs.lemmas.List.{get_or_default}
use Rattle.user_results.proofs.Laws.{pairs-none, pairs-more}
use Rattle.user_results.proofs.count_pairs.Goals as goal

pub loop-q-init : goal.loop-q-init
loop-q-init c = (sym (pairs-none c.args.users.now), search rules)

pub loop-q-preserved : goal.loop-q-preserved
loop-q-preserved c =
    let users = c.args.users.now in
    let l = c.loop-q in
    let n : length users ≡ 16 = search rules in
    let same = ap (λ (q : Found). q.len) (get_or_default users l.q-index _ nothing (omega arith)) in
    (ap₂ ◌+◌ l.invariant.0 same ∙ sym (pairs-more users l.q-index), omega (arith, c.requires l.q-index (omega arith), same))
