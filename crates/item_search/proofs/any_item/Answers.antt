-- `any_item` meets its contract.
use Rattle.std.proofs.Common.{sym, ap, ◌∙◌, ℕ, ◌<◌, length, get_or, arith, rules, Fits, w8}
use Rattle.lanes.specs.Lanes.{lane_of}
use Rattle.policy.specs.Rules.{values_of}
use Rattle.policy.proofs.Laws.{values_length}
use Rattle.allowed_rows.specs.Basis.{model_by}
use Rattle.allowed.proofs.Laws.{value-at}
use Rattle.allowed_rows.proofs.ScratchLaws.{scratch-kept}
use Rattle.search.specs.Queue.{nothing}
use Rattle.search.specs.Items.{asked, grow_items, start_roots, ready_of}
use Rattle.search.specs.declared.queue.Found.{Found}
use Rattle.search.proofs.ItemLaws.{ready-had, ready-asked}
use Rattle.search.proofs.Fewer.{any-fewer}
use Rattle.item_search.proofs.Laws.{each_fewer}
use Rattle.item_search.proofs.any_item.Goals as goal

pub asked-requires : goal.asked-requires
asked-requires c =
    let a = c.args in record { in_lists = c.requires.in_lists; scratch = c.requires.scratch; had = ready-had (model_by a.basis.now) a.helpers a.basis.now.sessions c.ready_of-ready.result c.requires.in_lists.sessions c.ready_of-ready.ensures }

pub grow-requires : goal.grow-requires
grow-requires c = let p = c.requires in record { in_lists = p.in_lists; scratch = scratch-kept p.scratch c.asked.auto.area }

pub returns : goal.returns
returns c =
    let byte-values : (j : ℕ) → j < length (values_of c.args.items) → get_or (values_of c.args.items) j 0 < 256 =
    λ j. λ h. let v = c.args.items in
    let f : Fits w8 (get_or v.values j 0) = search rules in
    let l : j < v.count = omega (arith, values_length v) in
    omega (arith, value-at v j l) in
    let a = c.args in
    let m = model_by a.basis.now in
    let h = ready_of m (lane_of a.helpers) in
    let vs = values_of a.items in
    let ready = c.ready_of-ready in
    let few = c.one_of_each-few in
    c.grow.ensures
    ∙ ap (λ (q : Found). grow_items m (lane_of few.result) q 256)
    (c.asked.ensures ∙ ready-asked m a.helpers a.basis.now.sessions ready.result c.requires.in_lists.sessions ready.ensures _ 256
    ∙ ap (λ (q : Found). asked m h q 256)
    (c.starting.ensures ∙ ap (λ (q : Found). start_roots vs q a.items.count) c.new-queue.ensures ∙ ap (start_roots vs nothing) (sym (values_length a.items))))
    ∙ any-fewer m (lane_of a.helpers) (lane_of few.result) (each_fewer a.basis.now a.helpers ready.result few.result c.requires.in_lists ready.ensures few.ensures) vs (byte-values)
