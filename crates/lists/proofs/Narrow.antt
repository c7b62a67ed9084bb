-- Values in the lists are as narrow as the lists are.
use mathlib.Core.Path.{◌≡◌, sym, subst}
use mathlib.Core.Bool.{Bool, true, false, cond}
use mathlib.Core.List.{List, [], ◌∷◌}
use Prim.Native.Nat.{ℕ, ◌/◌, ◌%◌, ◌^◌, ◌≤◌, ◌<◌}
use native.Mathlib.Nat.{div-lt_iff_lt-mul}
use native.Mathlib.Omega.{arith}
use borrow.Author.Tests.{ltb-true, eqb-true}
use lib.Dec.{ltb, eqb}
use lib.Pow.{pow_pos, pow-add}
use Rattle.bits.proofs.Set.{both_true}
use Rattle.policy.specs.Policy.{Attr, fewest_bits, bits_for, codes, width}
use Rattle.policy.proofs.Laws.{fewest-enough}
use Rattle.lists.specs.Lists.{in_lists, listed}

-- an attribute's codes fit its bits
codes-fit : (a : Attr) → codes a ≤ 2 ^ bits_for a
unfolding codes bits_for
codes-fit a = go (eqb a.kind 0)
  where
    go : (b : Bool) → cond b a.size (2 ^ a.size) ≤ 2 ^ cond b (fewest_bits a.size) a.size
    go true = fewest-enough a.size
    go false = omega arith

pub in-narrow : (l : List Attr) (v : ℕ) → in_lists l v ≡ true → v < 2 ^ width l
unfolding in_lists width
in-narrow [] v e = let z : v ≡ 0 = eqb-true v 0 e in omega arith
in-narrow (a ∷ l) v e =
    let m = 2 ^ width l in
    let h : v / m < codes a = ltb-true (v / m) (codes a) (both_true (ltb (v / m) (codes a)) (in_lists l (v % m)) e).0 in
    subst (λ (z : ℕ). v < z) (sym (pow-add 2 (bits_for a) (width l))) ((div-lt_iff_lt-mul (pow_pos (width l))).0 (omega (arith, h, codes-fit a)))

pub listed-narrow : (l : List Attr) (v : ℕ) → listed l v ≡ true → v < 2 ^ width l
unfolding listed
listed-narrow l v e = in-narrow l v (both_true (ltb v 256) (in_lists l v) e).1
