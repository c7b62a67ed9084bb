-- The nodes of one formula among its 64 places. In order: they are the first of them; which of them depend on a holder; tables of nodes that stand first.
use mathlib.Core.Path.{◌≡◌, sym, ap, ◌∙◌, subst, fun_ext}
use mathlib.Core.Bool.{Bool}
use mathlib.Core.List.{List}
use Prim.Native.Nat.{ℕ, ◌+◌, ◌*◌, ◌≤◌}
use native.Mathlib.Omega.{arith}
use lib.ListN.{length, get_or, take}
use Rattle.std.proofs.lemmas.List.{same_lists, get_or-take, length-take}
use Rattle.bits.proofs.Packed.{get_or-tab, length-tab}
use Rattle.policy.specs.Policy.{Lists}
use Rattle.policy.specs.Rules.{nodes_of}
use Rattle.policy.proofs.Laws.{nodes-length}
use Rattle.dependence.specs.Depends.{Depends}
use Rattle.tables.specs.Tables.{Tables}

module _ (l : List ℕ) (f n : ℕ) (few : n ≤ 64) (places : List ℕ) (all : places ≡ nodes_of l f 64) where
  pub own-nodes : take n places ≡ nodes_of l f n
  unfolding nodes_of
  own-nodes =
      let g : ℕ → ℕ = λ k. get_or l (64 * f + k) 0 in
      ap (take n) all
      ∙ same_lists _ _ (omega (arith, length-take n (nodes_of l f 64), length-tab g 0 64, length-tab g 0 n))
      (λ k d h.
      let b : k ≤ n = omega (arith, length-take n (nodes_of l f 64)) in
      get_or-take n (nodes_of l f 64) k d (omega (arith, h, length-take n (nodes_of l f 64)))
      ∙ get_or-tab g 0 64 k d (omega (arith, h, length-take n (nodes_of l f 64))) ∙ sym (get_or-tab g 0 n k d (omega (arith, h, length-take n (nodes_of l f 64)))))

  pub own-depends : (h : ℕ) (d : List Bool) → Depends (λ k. get_or (nodes_of l f n) k 0) h n d → Depends (λ k. get_or (take n places) k 0) h (length (take n places)) d
  own-depends h d D =
      subst (λ (s : List ℕ). Depends (λ k. get_or s k 0) h (length s) d) (sym own-nodes)
      (subst (λ (m : ℕ). Depends (λ k. get_or (nodes_of l f n) k 0) h m d) (sym (nodes-length l f n)) D)

pub tables-own : (c : Lists) (L R O : ℕ) (lanes rows outer : List Bool) (nodes : List ℕ) (room n : ℕ) (old new : List ℕ)
    → Tables c L R O lanes rows outer (λ k. get_or nodes (64 * 0 + k) 0) room n old new
    → Tables c L R O lanes rows outer (λ k. get_or nodes k 0) room n old new
tables-own c L R O lanes rows outer nodes room n old new =
    subst (λ (g : ℕ → ℕ). Tables c L R O lanes rows outer g room n old new)
    (fun_ext (λ k. let e : 64 * 0 + k ≡ k = omega arith in ap (λ (j : ℕ). get_or nodes j 0) e))
