-- `name_user` meets its contract. The loop's invariant: the values below v are named anew, and the others are as they were.
use Rattle.std.proofs.Common.{Bool, ◌&&◌, ◌||◌, cond, eqb, ◌+◌, length, get_or, ap, ◌∙◌, ◌≡◌, arith}
use Rattle.user_results.proofs.Laws.{renamed-more, renamed-all}
use Rattle.user_results.proofs.name_user.Goals as goal

pub loop-v-preserved : goal.loop-v-preserved
loop-v-preserved c =
    let a = c.args in
    let l = c.loop-v in
    let n : length l.by ≡ 256 = l.invariant.long in
    renamed-more a.by.now a.seen a.u a.asked l.by l.v (omega arith) l.invariant _
    (c.name_one.ensures ∙ ap (λ (h : Bool). cond (h && (eqb (get_or l.by l.v 0) 0 || a.asked)) (a.u + 1) (get_or l.by l.v 0)) c.has.ensures)

pub returns : goal.returns
returns c =
    let a = c.args in
    let l = c.loop-v in
    let n : length l.by ≡ 256 = l.invariant.long in
    renamed-all a.by.now a.seen a.u a.asked l.by l.v (omega arith) l.invariant
