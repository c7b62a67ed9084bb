-- `grow` meets its contract. The loop's invariant: the places below i are worked off.
use Rattle.std.proofs.Common.{ap, ◌∙◌}
use Rattle.runs.specs.Edge.{changes_to}
use Rattle.allowed_rows.specs.Basis.{model_by}
use Rattle.search.specs.Sessions.{grown_at}
use Rattle.search.specs.declared.queue.Found.{Found}
use Rattle.search.proofs.Laws.{grow-start, grow-turn}
use Rattle.session_search.proofs.grow.Goals as goal

pub loop-i-init : goal.loop-i-init
loop-i-init c =
    let a = c.args in
    let m = model_by a.basis.now in
    (c.begin.ensures.ready, grow-start (changes_to m a.u) a.queue.now m.session_value)

pub loop-i-preserved : goal.loop-i-preserved
loop-i-preserved c =
    let a = c.args in
    let l = c.loop-i in
    let g = c.grow_at.ensures in
    let m = model_by a.basis.now in (
      g.change_ready_after,
      g.queue_after
          ∙ ap (λ (q : Found). grown_at m.session_value (changes_to m a.u) q l.i) l.invariant.1
          ∙ grow-turn (changes_to m a.u) a.queue.now m.session_value l.i,
    )
