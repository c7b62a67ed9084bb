-- Session values that the formula of changed items cannot tell apart may change items alike.
use mathlib.Core.Path.{◌≡◌, sym, ap, ◌∙◌}
use mathlib.Core.Bool.{Bool, ◌&&◌, cond}
use Prim.Native.Nat.{ℕ}
use lib.Dec.{eqb}
use Rattle.policy.specs.Rules.{lists_of}
use Rattle.dependence.specs.Answers.{holders_of}
use Rattle.alike.specs.Alike.{Same}
use Rattle.runs.specs.Edge.{modifies_to}
use Rattle.prepared.specs.Prepared.{holders}
use Rattle.allowed_rows.specs.Asked.{nodes_at}
use Rattle.allowed_rows.specs.Basis.{model_by}
use Rattle.allowed_rows.specs.declared.Basis.{Basis}
use Rattle.allowed_rows.proofs.RowLaws.{modify-says}

pub same-modifies : (b : Basis) (v w : ℕ) → Same (lists_of b.classes) (nodes_at b 3) 1 v w
    → (o n : ℕ) → modifies_to (model_by b) v o n ≡ modifies_to (model_by b) w o n
unfolding modifies_to holders holders_of
same-modifies b v w S o n =
    ap (λ (t : Bool). (model_by b).item_value n && t)
    (sym (modify-says b v o n) ∙ S (λ g. cond (eqb g 4) n (cond (eqb g 3) o 0)) ∙ modify-says b w o n)
