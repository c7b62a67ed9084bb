-- Laws of values that are taken one after another, the last first. In order: none taken; all; one more.
use mathlib.Core.Path.{◌≡◌, refl, sym, ap, ◌∙◌}
use mathlib.Core.Bool.{Bool, true, false, not, ◌&&◌, ◌||◌}
use mathlib.Core.Logic.{◌⊎◌, inl, inr}
use mathlib.Core.List.{List}
use Prim.Native.Nat.{ℕ, ◌≤◌, ◌<◌}
use native.Mathlib.Decide.{ℕ_discrete, dec_le}
use native.Mathlib.Omega.{arith}
use borrow.Author.Tests.{eq-eqb, ne_eqb, eqb-true}
use lib.Bits.{bit_and, and_le_l}
use lib.Dec.{eqb}
use Rattle.std.specs.Prelude.{Some}
use Rattle.lanes.specs.Lanes.{lane_of, Lanes, highest_of, Takes}
use Rattle.lanes.proofs.Laws.{highest-here, highest-off, highest-after}
use Rattle.policy.proofs.NodeLaws.{and_both, or-either, true-false}
use Rattle.alike.specs.Mask.{OneOfEachIn}

-- r has a value with the bits k of m, and no value of rest is later
abbrev Has : ℕ → List ℕ → List ℕ → ℕ → Type 0
Has m rest r k = (v : ℕ) × (v < 256) × (lane_of r v ≡ true) × (bit_and v m ≡ k) × ((w : ℕ) → w < 256 → lane_of rest w ≡ true → w ≤ v)

-- of the values of `among`, all but rest have been gone through: r has been chosen of them, and met has their bits of m
pub record Asking (m : ℕ) (among rest r met : List ℕ) : Type 0 where
  pub inside : (v : ℕ) → v < 256 → lane_of r v ≡ true → lane_of among v ≡ true
  pub left : (v : ℕ) → v < 256 → lane_of rest v ≡ true → lane_of among v ≡ true
  pub later : (w : ℕ) → w < 256 → lane_of among w ≡ true → lane_of rest w ≡ false
      → (v : ℕ) × (v < 256) × (w ≤ v) × (lane_of r v ≡ true) × (bit_and v m ≡ bit_and w m)
  pub known : (k : ℕ) → k < 256 → lane_of met k ≡ true → Has m rest r k

pub asking-start : (m : ℕ) (among r met : List ℕ) → Lanes (λ v. false) r → Lanes (λ v. false) met → Asking m among among r met
asking-start m among r met R M =
    record {
      inside = λ v h t. true-false t (R.each v h);
      left = λ v h t. t;
      later = λ w h t f. true-false t f;
      known = λ k h t. true-false t (M.each k h);
    }

pub asking-end : (m : ℕ) (among rest r met : List ℕ) → Asking m among rest r met → highest_of rest ≡ 256 → OneOfEachIn m among r
asking-end m among rest r met A e = record { inside = A.inside; later = λ w l t. A.later w l t (highest-off rest (omega arith) w l) }

-- v is the last of rest, and left is what is there without it
module _ (m : ℕ) (among rest r met left : List ℕ) (v : ℕ) (A : Asking m among rest r met) (T : Takes highest_of rest (Some v) left) where
  fewer : (w : ℕ) → w < 256 → lane_of left w ≡ true → lane_of rest w ≡ true
  fewer w l t = (and_both (lane_of rest w) _ (sym (T.2.each w l) ∙ t)).0

  here : lane_of rest v ≡ true
  here = ap (lane_of rest) T.1 ∙ highest-here rest (omega (arith, T.0, T.1))

  most : (w : ℕ) → w < 256 → lane_of rest w ≡ true → w ≤ v
  most w l t = go (dec_le w v)
    where
      go : Dec (w ≤ v) → w ≤ v
      go (yes p) = p
      go (no p) = true-false t (highest-after rest w (omega (arith, T.1)) l)

  -- what was chosen up to this turn is in r' and v has its bits
  module _ (r' met' : List ℕ) (kept : (w : ℕ) → w < 256 → lane_of r w ≡ true → lane_of r' w ≡ true)
      (inside : (w : ℕ) → w < 256 → lane_of r' w ≡ true → lane_of among w ≡ true)
      (has : Has m rest r' (bit_and v m))
      (known : (j : ℕ) → j < 256 → lane_of met' j ≡ true → (lane_of met j ≡ true) ⊎ (j ≡ bit_and v m)) where
    asking-next : Asking m among left r' met'
    asking-next =
        record {
          inside = inside;
          left = λ w l t. A.left w l (fewer w l t);
          later = λ w l t f. is_later w l t f (lane_of rest w) refl (ℕ_discrete w v);
          known = λ j l t. is_known j l (known j l t);
        }
      where
        is_later : (w : ℕ) → w < 256 → lane_of among w ≡ true → lane_of left w ≡ false → (b : Bool) → lane_of rest w ≡ b → Dec (w ≡ v)
            → (n : ℕ) × (n < 256) × (w ≤ n) × (lane_of r' n ≡ true) × (bit_and n m ≡ bit_and w m)
        is_later w l t f false n d = let a = A.later w l t n in (a.0, a.1, a.2, kept a.0 a.1 a.3, a.4)
        is_later w l t f true n (yes d) = (has.0, has.1, has.4 w l n, has.2, has.3 ∙ ap (λ (z : ℕ). bit_and z m) (sym d))
        is_later w l t f true n (no d) =
            true-false (T.2.each w l ∙ ap (λ (b : Bool). b && not (eqb w v)) n ∙ ap not (ne_eqb w v d)) f

        is_known : (j : ℕ) → j < 256 → (lane_of met j ≡ true) ⊎ (j ≡ bit_and v m) → Has m left r' j
        is_known j l (inl t) = let a = A.known j l t in (a.0, a.1, kept a.0 a.1 a.2, a.3, λ w p q. a.4 w p (fewer w p q))
        is_known j l (inr t) = (has.0, has.1, has.2, has.3 ∙ sym t, λ w p q. has.4 w p (fewer w p q))

  -- its bits have been met
  pub asking-met : lane_of met (bit_and v m) ≡ true → Asking m among left r met
  asking-met t = asking-next r met (λ w l u. u) A.inside (A.known (bit_and v m) (omega (arith, and_le_l v m, T.0)) t) (λ j l u. inl u)

  -- they have not: v is chosen
  pub asking-more : (r' met' : List ℕ) → Lanes (λ w. lane_of r w || eqb w v) r' → Lanes (λ w. lane_of met w || eqb w (bit_and v m)) met' → Asking m among left r' met'
  asking-more r' met' R M =
      asking-next r' met' (λ w l t. R.each w l ∙ ap (λ (b : Bool). b || eqb w v) t)
      (λ w l t. in-among w l (or-either (lane_of r w) _ (sym (R.each w l) ∙ t)))
      (v, T.0, R.each v T.0 ∙ ap (λ (b : Bool). lane_of r v || b) (eq-eqb v v refl) ∙ always (lane_of r v), refl, most)
      (λ j l t. now j (or-either (lane_of met j) _ (sym (M.each j l) ∙ t)))
    where
      in-among : (w : ℕ) → w < 256 → (lane_of r w ≡ true) ⊎ (eqb w v ≡ true) → lane_of among w ≡ true
      in-among w l (inl t) = A.inside w l t
      in-among w l (inr t) = ap (lane_of among) (eqb-true w v t) ∙ A.left v T.0 here

      now : (j : ℕ) → (lane_of met j ≡ true) ⊎ (eqb j (bit_and v m) ≡ true) → (lane_of met j ≡ true) ⊎ (j ≡ bit_and v m)
      now j (inl t) = inl t
      now j (inr t) = inr (eqb-true j (bit_and v m) t)

      always : (b : Bool) → b || true ≡ true
      always true = refl
      always false = refl
