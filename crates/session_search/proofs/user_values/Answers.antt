-- `user_values` meets its contract: it begins with what the user may open a session with.
use Rattle.std.proofs.Common.{sym, ap, ◌∙◌}
use Rattle.lanes.specs.Lanes.{lane_of}
use Rattle.runs.specs.Edge.{opens_with, changes_to}
use Rattle.allowed_rows.specs.Basis.{model_by}
use Rattle.search.specs.Queue.{nothing, spread}
use Rattle.search.specs.Sessions.{grow_to}
use Rattle.search.specs.declared.queue.Found.{Found}
use Rattle.search.proofs.Laws.{spread-lanes, opens_row, sessions-are}
use Rattle.session_search.proofs.user_values.Goals as goal

pub returns-clause-value : goal.returns-clause-value
returns-clause-value c =
    let a = c.args in
    let m = model_by a.basis.now in
    c.grow.ensures.queue_after
    ∙ ap (λ (q : Found). grow_to m.session_value (changes_to m a.u) q 256)
    (c.spread.ensures
    ∙ ap (λ (q : Found). spread (lane_of a.opened) q 0 0) c.new-queue.ensures
    ∙ spread-lanes nothing 0 0 (opens_with m a.u) a.opened (opens_row m a.u a.basis.now.sessions a.opened c.requires.in_lists.sessions c.requires.lanes))
    ∙ sym (sessions-are m a.u)
