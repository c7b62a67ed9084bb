-- `starting::put::put_items` meets its contract: the front holds the cells, and the rest stays.
use Rattle.std.proofs.Common.{sym, ◌∙◌, arith}
use Rattle.std.proofs.lemmas.Grind.{common_steps}
use Rattle.starting.proofs.StartLaws.{over_front, item_cells_length, item_cells_at}
use Rattle.starting.proofs.put.put_items.Goals as goal

pub returns : goal.returns
returns c =
    let t = c.args.starting in
    over_front _ _ _ _ (item_cells_length t) (grind (arith, common_steps)) (λ k b. c.loop-k.invariant k (grind (arith, common_steps)) ∙ sym (item_cells_at t k b))
