-- Laws of users and of formulas of rules. In order: the value of a user; a formula that is there, and one that is not.
use mathlib.Core.Path.{◌≡◌, ap, ◌∙◌}
use mathlib.Core.Bool.{false}
use mathlib.Core.List.{[]}
use Prim.Native.Nat.{ℕ, ◌+◌, ◌≤◌, ◌<◌}
use native.Mathlib.Omega.{arith}
use lib.ListN.{get_or, get_or-eq_default}
use Rattle.bits.proofs.Packed.{get_or-tab}
use Rattle.policy.specs.Rules.{values_of, nodes_of, formulas_of, lists_of, policy_of}
use Rattle.policy.specs.declared.Values.{Values}
use Rattle.policy.specs.declared.Rules.{Rules}
use Rattle.policy.proofs.Laws.{values_length, formulas-length}
use Rattle.formulas.specs.Meaning.{said, holds}
use Rattle.formulas.specs.declared.Holders.{Holders}
use Rattle.allowed.specs.Allowed.{says}

module _ (v : Values) (u : ℕ) where
  pub value-at : u < v.count → get_or (values_of v) u 0 ≡ get_or v.values u 0
  unfolding values_of
  value-at h = get_or-tab (λ k. get_or v.values k 0) 0 v.count u 0 h ∙ ap (λ (k : ℕ). get_or v.values k 0) (omega arith)

  pub value_none : v.count ≤ u → get_or (values_of v) u 0 ≡ 0
  value_none h = get_or-eq_default (values_of v) 0 {n = u} (omega (arith, values_length v))

module _ (r : Rules) (f : ℕ) (h : Holders) where
  -- formula f, by its nodes
  pub says_at : f < 4 + r.permissions → says (policy_of r) f h ≡ holds (lists_of r.classes) h (nodes_of r.nodes f (get_or r.lengths f 0))
  unfolding says policy_of formulas_of
  says_at l =
      ap (holds (lists_of r.classes) h)
      (get_or-tab (λ f. nodes_of r.nodes f (get_or r.lengths f 0)) 0 (4 + r.permissions) f [] l
      ∙ ap (λ (f : ℕ). nodes_of r.nodes f (get_or r.lengths f 0)) (omega arith))

  -- there is no such formula
  pub says_none : 4 + r.permissions ≤ f → says (policy_of r) f h ≡ false
  unfolding says policy_of holds said
  says_none l =
      ap (holds (lists_of r.classes) h)
      (get_or-eq_default (formulas_of r.nodes r.lengths (4 + r.permissions)) [] {n = f} (omega (arith, formulas-length r.nodes r.lengths (4 + r.permissions))))
