-- Laws of steps on lent cells. In order: a session as it reads; a row's step, by the parts that the program reads.
use mathlib.Core.Path.{◌≡◌, refl, sym, ap}
use mathlib.Core.List.{List, [], ◌∷◌}
use Prim.Native.Nat.{ℕ, zero, suc}
use lib.Dec.{eqb}
use Rattle.policy.specs.Rules.{attrs_of, policy_of}
use Rattle.policy.specs.declared.Rules.{Rules}
use Rattle.lists.specs.Lists.{listed}
use Rattle.runs.specs.Model.{Model}
use Rattle.runs.specs.Step.{Step}
use Rattle.allowed.specs.Allowed.{model_of}
use Rattle.cells.specs.Cell.{session_at}
use Rattle.cells.specs.Row.{parts_of, step_of}
use Rattle.cells.specs.declared.row.Row.{Row}
use Rattle.cells.specs.Kind.{number_of as kind_number}
use Rattle.cells.specs.declared.kind.Kind.{Kind}
use Rattle.live.specs.Lent.{Lent, lent_as, refused, tested}
use Rattle.live.specs.declared.Next.{Next}
use Rattle.steps.specs.Step.{session_now, by_kind, step_in}
use Rattle.steps.proofs.ModelLaws.{model_in_lem}

-- a session as it reads, of rules in memory
pub session_now_is : (r : Rules) (sessions items : List ℕ) (next : Next) (k : ℕ)
    → session_now (model_of (policy_of r)) (lent_as sessions items next) k
    ≡ session_at r.users.count (listed (attrs_of r.classes.session)) sessions next.session k
unfolding session_now
session_now_is r sessions items next k = ap (λ (m : Model). session_now m (lent_as sessions items next) k) (model_in_lem r)

-- a row's step, by the parts that the program reads

module _ (m : Model) (s : Lent) where
  pub step_read : (x : ℕ) (r : Row) → r ≡ parts_of x → step_in m s x ≡ tested ((eqb r.spare 0, 12) ∷ []) s (by_kind m s (step_of r) r.kind)
  unfolding step_in step_of
  step_read x r e = ap (λ (y : Row). tested ((eqb y.spare 0, 12) ∷ []) s (by_kind m s (step_of y) y.kind)) (sym e)

  pub kind_unknown : (p : Step) (k : ℕ) → ((kind : Kind) → kind_number kind ≡ k → ⊥) → by_kind m s p k ≡ refused 12 s
  unfolding by_kind
  kind_unknown p zero n = refl
  kind_unknown p (suc zero) n = absurd (n Kind.Open refl)
  kind_unknown p (suc (suc zero)) n = absurd (n Kind.Close refl)
  kind_unknown p (suc (suc (suc zero))) n = absurd (n Kind.ChangeSession refl)
  kind_unknown p (suc (suc (suc (suc zero)))) n = absurd (n Kind.Make refl)
  kind_unknown p (suc (suc (suc (suc (suc zero))))) n = absurd (n Kind.ChangeItem refl)
  kind_unknown p (suc (suc (suc (suc (suc (suc zero)))))) n = absurd (n Kind.Access refl)
  kind_unknown p (suc (suc (suc (suc (suc (suc (suc k))))))) n = refl
