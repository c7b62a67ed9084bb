-- Laws of sets of lanes behind a test.
use mathlib.Core.Path.{◌≡◌, sym, ap, ◌∙◌}
use mathlib.Core.Bool.{Bool, true, false, ◌&&◌}
use mathlib.Core.List.{List}
use Prim.Native.Nat.{ℕ}
use Rattle.std.proofs.Math.Bool.{and-false}
use Rattle.lanes.specs.Lanes.{Lanes}
use Rattle.lanes.proofs.Laws.{lanes-as}

-- a test that does not look at the lane
module _ (s g : ℕ → Bool) (t : Bool) (x : List ℕ) where
  pub test-holds : t ≡ true → Lanes (λ (v : ℕ). s v && g v) x → Lanes (λ (v : ℕ). s v && (t && g v)) x
  test-holds e l = lanes-as _ _ x l (λ v h. ap (λ (b : Bool). s v && (b && g v)) (sym e))

  pub test-fails : t ≡ false → Lanes (λ v. false) x → Lanes (λ (v : ℕ). s v && (t && g v)) x
  test-fails e l = lanes-as _ _ x l (λ v h. sym (ap (λ (b : Bool). s v && (b && g v)) e ∙ and-false (s v)))
