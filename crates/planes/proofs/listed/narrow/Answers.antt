-- `planes::listed::narrow` meets its contract. The loop's invariant: nothing stands left of bit k.
use mathlib.Core.Path.{◌≡◌, refl, sym, ap, ◌∙◌}
use mathlib.Core.Logic.{◌⊎◌, inl, inr}
use Prim.Native.Nat.{ℕ, ◌-◌, ◌/◌, ◌^◌, ◌<◌, ◌≤◌}
use native.Mathlib.Decide.{dec_le}
use native.Mathlib.Nat.{div-eq_of_lt}
use native.Mathlib.Omega.{arith}
use borrow.Author.Tests.{eq-eqb}
use lib.Dec.{eqb}
use lib.Pow.{pow_mono}
use Rattle.planes.proofs.Words.{told-byte, told-all, told-plane}
use Rattle.planes.proofs.Turns.{narrow-turn}
use borrow.Author.Rules.{rules}
use Rattle.planes.proofs.listed.narrow.Goals as goal

-- the loop ends at bit n, or at bit 8 where n is above: there is nothing left of either
left : (n k v : ℕ) → v < 256 → (k ≡ n) ⊎ ((k ≡ 8) × (8 ≤ n)) → eqb (v / 2 ^ k) 0 ≡ eqb (v / 2 ^ n) 0
left n k v l (inl e) = ap (λ (k : ℕ). eqb (v / 2 ^ k) 0) e
left n k v l (inr e) =
    ap (λ (k : ℕ). eqb (v / 2 ^ k) 0) e.0 ∙ eq-eqb (v / 2 ^ 8) 0 (omega arith) ∙ sym (eq-eqb (v / 2 ^ n) 0 (div-eq_of_lt (omega (arith, pow_mono {i = 8} {j = n} e.1))))

pub loop-k-init : goal.loop-k-init
loop-k-init c =
    let a = c.args in
    (λ h. refl, λ h. h, told-byte a.planes.now _ _ _ (search rules) (told-all a.planes.now) (λ v l. sym (eq-eqb (v / 2 ^ 8) 0 (omega arith))))

pub loop-k-preserved : goal.loop-k-preserved
loop-k-preserved c =
    let t = c.loop-k in
    let p = c.args.planes.now in
    (λ h. absurd (omega arith), λ h. omega arith, narrow-turn p t.k (t.k - 1) t.r _ (omega arith) (search rules) t.invariant.2 (told-plane p (t.k - 1) _ c.get_or.ensures))

pub returns : goal.returns
returns c =
    let t = c.loop-k in
    let a = c.args in
    let d : (t.k ≡ a.n) ⊎ ((t.k ≡ 8) × (8 ≤ a.n)) = elim (dec_le 8 a.n) [ yes h ↦ inr (t.invariant.0 h, h) | no h ↦ inl (omega (arith, t.invariant.1 (omega arith))) ] in
    told-byte a.planes.now _ _ _ (search rules) t.invariant.2 (λ v l. left a.n t.k v l d)
