-- `starting::put::put_sessions` meets its contract: the front holds the cells, and the rest stays.
use Rattle.std.proofs.Common.{sym, ◌∙◌, arith}
use Rattle.std.proofs.lemmas.Grind.{common_steps}
use Rattle.starting.proofs.StartLaws.{over_front, session_cells_length, session_cells_at}
use Rattle.starting.proofs.put.put_sessions.Goals as goal

pub returns : goal.returns
returns c =
    let t = c.args.starting in
    over_front _ _ _ _ (session_cells_length t) (grind (arith, common_steps)) (λ k b. c.loop-k.invariant k (grind (arith, common_steps)) ∙ sym (session_cells_at t k b))
