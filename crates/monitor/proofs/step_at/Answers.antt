-- `monitor::step_at` meets its contract: what is judged is the step, and it is done.
use mathlib.Core.Path.{◌∙◌, sym, ap}
use Rattle.live.specs.Lent.{lent_as, done}
use Rattle.judge.specs.Judge.{applied_to}
use Rattle.monitor.proofs.step_at.Goals as goal

pub returns : goal.returns
unfolding done
returns c =
    let a = c.args in
    let s = lent_as a.sessions.now a.items.now a.next in
    let e = c.in_ok-judged.was in
    c.apply.ensures a.next ∙ sym (ap (λ j. applied_to j s) e) ∙ c.judge.ensures
