-- `allowed_rows::Basis::begin` meets its contract.
use mathlib.Core.Path.{subst}
use Prim.Native.Nat.{ℕ, ◌<◌}
use Rattle.policy.specs.Rules.{lists_of}
use Rattle.prepared.specs.Prepared.{Ready}
use Rattle.prepared.proofs.Meaning.{begin-ready}
use Rattle.allowed_rows.specs.Asked.{formula_of, lane_holder, row_holder, outer_holder, nodes_at}
use borrow.Author.Rules.{rules}
use Rattle.allowed_rows.proofs.Basis.begin.Goals as goal

pub returns : goal.returns
returns c =
    let x = c.args in
    let b = x.self.now in
    let a = x.asked in
    let k = c.begin in
    let v = c.outer_value in
    let l = lists_of b.classes in
    let n = nodes_at b (formula_of a) in
    let byte : v.result < 256 = search rules in
    record {
      ready = subst (λ (o : ℕ). (o < 256) × Ready l n (lane_holder a) (row_holder a) (outer_holder a) x.plan.now o k.new.area) v.ensures
          (byte, begin-ready l n (lane_holder a) (row_holder a) (outer_holder a) c.requires v.result _ k.ensures.area_len_unchanged k.ensures.rows);
      area_len_unchanged = k.ensures.area_len_unchanged;
    }
