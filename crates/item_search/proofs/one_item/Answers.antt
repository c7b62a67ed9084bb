-- `one_item` meets its contract.
use Rattle.std.proofs.Common.{ap, ◌∙◌, ◌+◌, rules}
use Rattle.lanes.specs.Lanes.{lane_of}
use Rattle.allowed_rows.specs.Basis.{model_by}
use Rattle.search.specs.Queue.{pushed}
use Rattle.search.specs.Items.{grow_items}
use Rattle.search.specs.declared.queue.Found.{Found}
use Rattle.search.proofs.Fewer.{one_fewer}
use Rattle.item_search.proofs.Laws.{each_fewer}
use Rattle.item_search.proofs.one_item.Goals as goal

pub returns : goal.returns
returns c =
    let a = c.args in
    let m = model_by a.basis.now in
    let ready = c.ready_of in
    let few = c.one_of_each-few in
    c.grow.ensures
    ∙ ap (λ (q : Found). grow_items m (lane_of few.result) q 256)
    (c.push.ensures ∙ ap (λ (q : Found). pushed q a.held 0 (256 + a.j)) c.new-queue.ensures)
    ∙ one_fewer m (lane_of a.helpers) (lane_of few.result) (each_fewer a.basis.now a.helpers ready.result few.result c.requires.in_lists ready.ensures few.ensures) a.j a.held
    (search rules) (search rules)
