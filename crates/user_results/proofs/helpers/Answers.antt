-- `helpers` meets its contract. The loop's invariant: the lanes of those searches that it has gone over.
use Rattle.std.proofs.Common.{◌≡◌, ℕ, ◌||◌, length, sym, ap, ap₂, ◌∙◌, arith, rules}
use Rattle.lanes.specs.Lanes.{lane_of}
use Rattle.lanes.proofs.Laws.{lanes-as}
use Rattle.search.specs.Queue.{nothing}
use Rattle.search.specs.declared.queue.Found.{Found}
use Rattle.std.proofs.lemmas.List.{get_or_default}
use Rattle.user_results.proofs.Laws.{some_has, some-zero, some_more, any-has}
use Rattle.user_results.proofs.helpers.Goals as goal

pub loop-q-init : goal.loop-q-init
loop-q-init c = lanes-as _ _ c.none-all.result c.none-all.ensures (λ v h. sym (some-zero _))

pub loop-q-preserved : goal.loop-q-preserved
loop-q-preserved c =
    let users = c.args.users.now in
    let l = c.loop-q in
    let n : length users ≡ 16 = search rules in
    let same = get_or_default users l.q-index _ nothing (omega arith) in record {
      long = c.or-more.ensures.long;
      each = λ v h.
          c.or-more.ensures.each v h
          ∙ ap₂ ◌||◌ (l.invariant.each v h) (ap (λ (q : Found). lane_of q.seen v) same)
          ∙ sym (some_more _ l.q-index);
    }

pub returns : goal.returns
returns c =
    let users = c.args.users.now in
    let l = c.loop-q in
    let n : length users ≡ 16 = search rules in
    let e : l.q-index ≡ 16 = omega arith in
    lanes-as _ _ l.all l.invariant (λ v h. ap (λ (n : ℕ). some_has users n v) e ∙ any-has users v)
