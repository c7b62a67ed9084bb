-- `goal::item_values` meets its contract: no value is found along a way of 256 links.
use Rattle.std.proofs.Common.{◌∙◌, ℕ, ◌<◌, ap, get_or, arith, rules, Fits, w8}
use Rattle.lanes.specs.Lanes.{lane_of}
use Rattle.allowed_rows.specs.Basis.{model_by}
use Rattle.search.specs.Items.{one_found}
use Rattle.goal.proofs.Questions.{item-one, item-any}
use Rattle.goal.proofs.Helpers.{found-shallow}
use Rattle.goal.proofs.about.item_values.Goals as goal

pub returns-then-q-eq-ITEM-clause-shallow : goal.returns-then-q-eq-ITEM-clause-shallow
returns-then-q-eq-ITEM-clause-shallow c =
    let a = c.args in
    let m = model_by a.basis.now in
    let h = lane_of a.helpers in
    let few-items : a.items.count < 256 = search rules in
    let byte-item : a.q.item < 256 = search rules in
    let byte-values : (k : ℕ) → get_or a.items.values k 0 < 256 = λ k. let f : Fits w8 (get_or a.items.values k 0) = search rules in omega arith in
    found-shallow m a.items a.q h c.one_item.result byte-item few-items byte-values
    (c.one_item.ensures ∙ ap (λ (o : ℕ). one_found m h a.q.item o) c.value-value.ensures ∙ item-one m a.items a.q h c.if-q-eq-ITEM.true)

pub returns-clause-shallow : goal.returns-clause-shallow
returns-clause-shallow c =
    let a = c.args in
    let m = model_by a.basis.now in
    let h = lane_of a.helpers in
    let few-items : a.items.count < 256 = search rules in
    let byte-item : a.q.item < 256 = search rules in
    let byte-values : (k : ℕ) → get_or a.items.values k 0 < 256 = λ k. let f : Fits w8 (get_or a.items.values k 0) = search rules in omega arith in
    found-shallow m a.items a.q h c.any_item.result byte-item few-items byte-values (c.any_item.ensures ∙ item-any m a.items a.q h c.if-q-eq-ITEM.false)
