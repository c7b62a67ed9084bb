-- `allowed_rows::Basis::allowed` meets its contract: a row of the formula, for what it is worked out for.
use Rattle.policy.specs.Rules.{lists_of}
use Rattle.prepared.proofs.Meaning.{row-ready}
use Rattle.allowed_rows.specs.Asked.{formula_of, lane_holder, row_holder, outer_holder, outer_value, nodes_at, allows}
use Rattle.allowed_rows.proofs.RowLaws.{row-lanes, allows-says}
use borrow.Author.Rules.{rules}
use Rattle.allowed_rows.proofs.Basis.allowed.Goals as goal

pub returns : goal.returns
returns c =
    let x = c.args in
    let b = x.self.now in
    let a = x.asked in
    let k = c.row_at in
    let l = lists_of b.classes in
    let n = nodes_at b (formula_of a) in
    let G = c.requires.ready in
    record {
      lanes = row-lanes l n (lane_holder a) (row_holder a) (outer_holder a) x.plan.now (outer_value b a x.outer) x.area.now G.1 G.0 x.row (search rules)
          (allows b a x.outer x.row) x.among k.result _ (λ v. allows-says b a x.outer x.row v c.requires.formula_bound) k.ensures.lanes c.and.ensures;
      still_ready = (G.0, row-ready l n (lane_holder a) (row_holder a) (outer_holder a) G.1 x.row _ k.ensures.area_len_unchanged k.ensures.rows);
      area_len_unchanged = k.ensures.area_len_unchanged;
    }
