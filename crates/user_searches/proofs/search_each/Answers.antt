-- `search_each` meets its contract. The loop's invariant: the searches of the users below u are there, and the formula stays prepared.
use Rattle.std.proofs.Common.{sym, subst, ◌∙◌, arith}
use Rattle.std.proofs.lemmas.List.{get_or_default}
use Rattle.allowed_rows.specs.Asked.{ChangePrepared}
use Rattle.allowed_rows.specs.Basis.{rules_by}
use Rattle.search.specs.Queue.{nothing}
use Rattle.user_searches.proofs.Laws.{filled_more, found_alike}
use Rattle.user_searches.proofs.search_each.Goals as goal
use Rattle.user_searches.proofs.search_each.Goals.{in-Some, in-None}

pub loop-u-preserved : goal.loop-u-preserved
loop-u-preserved c =
    let a = c.args in
    let l = c.loop-u in
    let m = c.match-first_with in (
      elim m.branch [
        | in-Some s ↦ subst (ChangePrepared a.basis.now a.plan.now) (sym s.area-is) l.invariant.0
        | in-None s ↦ subst (ChangePrepared a.basis.now a.plan.now) (sym s.area-is) s.search_user-q.ensures.change_prepared_after
      ],
      filled_more l.users l.u m.q (omega arith) l.invariant.1
          (elim m.branch [
            | in-Some s ↦
                let f = s.in-Some.ensures in
                found_alike (rules_by a.basis.now) l.u s.in-Some.w f.0 f.1 f.2 _
                (s.q-is ∙ get_or_default l.users s.in-Some.w _ nothing (omega (arith, f.0, l.invariant.1.long)) ∙ l.invariant.1.each s.in-Some.w f.0)
            | in-None s ↦ s.q-is ∙ s.search_user-q.ensures.value
          ]),
    )
