-- Laws of prepared formulas in the model's terms. In order: what each formula says of its holders; a row of each.
use mathlib.Core.Path.{◌≡◌, sym, ap, ◌∙◌}
use mathlib.Core.Bool.{Bool, ◌&&◌}
use mathlib.Core.List.{List}
use Prim.Native.Nat.{ℕ, ◌+◌, ◌<◌}
use native.Mathlib.Omega.{arith}
use borrow.Author.Tests.{lt-ltb}
use Rattle.lanes.specs.Lanes.{lane_of, Lanes}
use Rattle.lanes.proofs.Laws.{lanes-as}
use Rattle.policy.specs.Policy.{Lists}
use Rattle.policy.specs.Rules.{lists_of, policy_of}
use Rattle.formulas.specs.Meaning.{holds}
use Rattle.dependence.specs.Answers.{holders_of}
use Rattle.bitsets.specs.Rows.{bit_at}
use Rattle.prepared.specs.Prepared.{holders, rowed, Ready}
use Rattle.prepared.specs.declared.Plan.{Plan}
use Rattle.prepared.proofs.Meaning.{row-holds}
use Rattle.allowed.specs.Allowed.{opening, changing, making, modifying, accessing, user_value, model_of}
use Rattle.allowed_rows.specs.Asked.{formula_of, lane_holder, row_holder, outer_holder, outer_value, nodes_at, allows}
use Rattle.allowed_rows.specs.declared.Asked.{Asked}
use Rattle.allowed_rows.specs.declared.Asked.TheVariants.{Open, Change, Make, Modify, Access}
use Rattle.allowed_rows.specs.Basis.{rules_by, model_by}
use Rattle.allowed_rows.specs.declared.Basis.{Basis}
use Rattle.allowed.proofs.Laws.{says_at}
use Rattle.allowed.proofs.ModelLaws.{model-permissions}
use Rattle.runs.specs.Edge.{accesses}

-- a row of a formula that is ready, cut to the values that are asked about
module _ (c : Lists) (nodes : List ℕ) (L R O : ℕ) (p : Plan) (o : ℕ) (area : List ℕ) (G : Ready c nodes L R O p o area) (a : o < 256) (r : ℕ) (l : r < 256) where
  pub row-lanes : (g : ℕ → Bool) (among x y : List ℕ) → ((v : ℕ) → holds c (holders L R O o r v) nodes ≡ g v)
      → Lanes (rowed p r (bit_at area) p.nodes) x → Lanes (λ v. lane_of among v && lane_of x v) y → Lanes (λ v. lane_of among v && g v) y
  row-lanes g among x y e X Y =
      lanes-as _ _ y Y (λ v h. ap (λ (t : Bool). lane_of among v && t) (X.each v h ∙ row-holds c nodes L R O G r a l v h ∙ e v))

module _ (b : Basis) where
  pub modify-says : (v o n : ℕ) → holds (lists_of b.classes) (holders 4 1 3 o v n) (nodes_at b 3) ≡ (model_by b).may_modify v o n
  unfolding model_of modifying holders holders_of
  modify-says v o n = sym (says_at (rules_by b) 3 (modifying v o n) (omega arith))

  pub allows-says : (a : Asked) (o r v : ℕ) → formula_of a < 4 + b.permissions
      → holds (lists_of b.classes) (holders (lane_holder a) (row_holder a) (outer_holder a) (outer_value b a o) r v) (nodes_at b (formula_of a)) ≡ allows b a o r v
  unfolding model_of opening changing making accessing accesses holders holders_of
  allows-says Open o r v l = sym (says_at (rules_by b) 0 (opening (user_value (policy_of (rules_by b)) o) v) l)
  allows-says Change o r v l = sym (says_at (rules_by b) 1 (changing (user_value (policy_of (rules_by b)) o) r v) l)
  allows-says Make o r v l = sym (says_at (rules_by b) 2 (making v r) l)
  allows-says Modify o r v l = modify-says r o v
  allows-says (Access k) o r v l =
      sym (says_at (rules_by b) (4 + k) (accessing v r) l)
      ∙ sym (ap (λ (t : Bool). t && (model_by b).may_access k v r) (lt-ltb k (model_by b).permissions (omega (arith, model-permissions (rules_by b)))))
