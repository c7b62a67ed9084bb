-- One session value of each kind that the formula for changes of items tells apart is enough to search by.
use mathlib.Core.Path.{sym, ◌∙◌}
use mathlib.Core.Bool.{◌&&◌}
use mathlib.Core.List.{List}
use Prim.Native.Nat.{ℕ}
use Rattle.lanes.specs.Lanes.{lane_of, Lanes}
use Rattle.policy.specs.Rules.{lists_of}
use Rattle.alike.specs.Alike.{OneOfEach}
use Rattle.allowed_rows.specs.Asked.{nodes_at}
use Rattle.allowed_rows.specs.Basis.{model_by, InLists}
use Rattle.allowed_rows.specs.declared.Basis.{Basis}
use Rattle.allowed_rows.proofs.AlikeLaws.{same-modifies}
use Rattle.search.specs.Items.{ready_of}
use Rattle.search.proofs.ItemLaws.{ready-lanes}
use Rattle.search.proofs.Fewer.{Fewer}

pub each_fewer : (b : Basis) (helpers ready few : List ℕ) → InLists b → Lanes (λ (v : ℕ). lane_of helpers v && lane_of b.sessions v) ready
    → OneOfEach (lists_of b.classes) (nodes_at b 3) 1 ready few → Fewer (model_by b) (lane_of few) (ready_of (model_by b) (lane_of helpers))
each_fewer b helpers ready few W R E =
    let L = ready-lanes (model_by b) helpers b.sessions ready W.sessions R in
    record {
      inside = λ v h e. sym (L.each v h) ∙ E.inside v h e;
      later = λ w h e. let (v, l, le, t, s) = E.later w h (L.each w h ∙ e) in (v, l, le, t, same-modifies b v w s);
    }
