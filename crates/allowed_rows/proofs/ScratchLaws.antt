-- Laws of what is lent to prepare formulas in, for callers. In order: only the lengths make a difference; how many values of a holder are told apart, and
-- how many nodes a formula of rules in memory has; what is enough for the rules of a file, by the widths of their classes, and for those of any file.
use mathlib.Core.Path.{◌≡◌, ap, ◌∙◌}
use mathlib.Core.Bool.{Bool, true, false, cond}
use mathlib.Core.List.{List, []}
use Prim.Native.Nat.{ℕ, ◌+◌, ◌*◌, ◌^◌, ◌≤◌, ◌<◌, min}
use native.Mathlib.Nat.{min-le_left, mul-le-mul_left}
use native.Mathlib.Omega.{arith}
use lib.Dec.{ltb, leb, eqb}
use lib.ListN.{length, get_or}
use lib.Pow.{pow_mono, pow_pos}
use Rattle.bits.proofs.Packed.{get_or-tab, length-tab}
use Rattle.policy.specs.Policy.{Lists, width}
use Rattle.policy.specs.Nodes.{of_holder}
use Rattle.policy.specs.Rules.{attrs_of, lists_of, nodes_of, formulas_of, policy_of}
use Rattle.policy.specs.declared.Rules.{Rules}
use Rattle.lists.specs.Sound.{Sound}
use Rattle.prepared.specs.Prepared.{room_of}
use Rattle.allowed_rows.specs.Basis.{BasisOf}
use Rattle.allowed_rows.specs.Scratch.{Scratch}
use Rattle.allowed_rows.specs.declared.Basis.{Basis}

pub scratch-kept : {b : Basis} {area area' : List ℕ} → Scratch b area → length area' ≡ length area → Scratch b area'
scratch-kept S e = record { nodes = S.nodes; area-long = λ h. omega (arith, S.area-long h) }

module _ (c : Lists) (w : ℕ) (user : width c.of_user ≤ w) (session : width c.of_session ≤ w) (item : width c.of_item ≤ w) where
  holder-width : (h : ℕ) → width (of_holder c h) ≤ w
  unfolding of_holder
  holder-width h = go (eqb h 0) (leb h 2)
    where
      go : (a b : Bool) → width (cond a c.of_user (cond b c.of_session c.of_item)) ≤ w
      go true b = user
      go false true = session
      go false false = item

  pub room-wide : (h : ℕ) → room_of c h ≤ 2 ^ w
  unfolding room_of
  room-wide h = go (ltb h 5)
    where
      go : (b : Bool) → cond b (min (2 ^ width (of_holder c h)) 256) 1 ≤ 2 ^ w
      go true = omega (arith, min-le_left (2 ^ width (of_holder c h)) 256, pow_mono (holder-width h))
      go false = pow_pos w

formula-long : (r : Rules) (f : ℕ) → f < 4 + r.permissions → length (get_or (policy_of r).formulas f []) ≡ get_or r.lengths f 0
unfolding policy_of formulas_of nodes_of
formula-long r f h =
    ap length (get_or-tab (λ f. nodes_of r.nodes f (get_or r.lengths f 0)) 0 (4 + r.permissions) f [] h)
    ∙ length-tab (λ k. get_or r.nodes (64 * (0 + f) + k) 0) 0 (get_or r.lengths (0 + f) 0)
    ∙ ap (λ (k : ℕ). get_or r.lengths k 0) (let z : 0 + f ≡ f = omega arith in z)

pub scratch-wide : (r : Rules) (b : Basis) (area : List ℕ) (w : ℕ) → BasisOf r b → Sound (policy_of r)
    → width (attrs_of r.classes.user) ≤ w → width (attrs_of r.classes.session) ≤ w → width (attrs_of r.classes.item) ≤ w
    → 4 * (193 + 64 * 2 ^ w) ≤ length area → Scratch b area
unfolding policy_of lists_of
scratch-wide r b area w B sound u s i enough =
    record {
      nodes = rw (B.permissions, B.lengths) λ f h. omega (arith, formula-long r f h, sound.nodes f);
      area-long = rw B.classes λ h. omega (arith, mul-le-mul_left 64 (room-wide (lists_of r.classes) w u s i h));
    }

pub scratch-any : (r : Rules) (b : Basis) (area : List ℕ) → BasisOf r b → Sound (policy_of r) → 4 * (193 + 64 * 2 ^ 8) ≤ length area
    → Scratch b area
unfolding policy_of lists_of
scratch-any r b area B sound = scratch-wide r b area 8 B sound sound.user-width sound.session-width sound.item-width
