-- `preparing::places_of` meets its contract.
use mathlib.Core.Path.{sym, ap₂, ◌∙◌}
use mathlib.Core.List.{List, [], ◌∷◌, ◌++◌}
use Prim.Native.Nat.{ℕ}
use native.Mathlib.Omega.{arith}
use Rattle.std.proofs.lemmas.List.{take_more_set}
use Rattle.bits.proofs.Packed.{tab-zero, tab-more}
use Rattle.policy.specs.Rules.{nodes_of}
use Rattle.preparing.proofs.places_of.Goals as goal

pub loop-k-init : goal.loop-k-init
unfolding nodes_of
loop-k-init c = sym (tab-zero _ 0)

pub loop-k-preserved : goal.loop-k-preserved
unfolding nodes_of
loop-k-preserved c =
    take_more_set _ c.loop-k.k _ (omega arith) ∙ ap₂ (λ (l : List ℕ) (x : ℕ). l ++ x ∷ []) c.loop-k.invariant c.at.ensures ∙ sym (tab-more _ c.loop-k.k)
