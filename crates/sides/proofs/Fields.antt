-- Laws of where an attribute lies. In order: one that is not there; one that is; how many values so many bits have.
use mathlib.Core.Path.{◌≡◌, refl, sym, ap, ◌∙◌}
use Prim.Native.Nat.{ℕ, suc, ◌+◌, ◌*◌, ◌%◌, ◌^◌, ◌≤◌, ◌<◌, min}
use native.Mathlib.Nat.{one-mul}
use native.Mathlib.Numerals.{add-one}
use native.Mathlib.Omega.{arith}
use lib.Pow.{shl_exact}
use lib.ListN.{drop, drop_of_length-le, get_or-eq_default}
use Rattle.policy.specs.Policy.{no_attr, bits_for, width}
use Rattle.policy.specs.Rules.{attr_at, attrs_of}
use Rattle.policy.specs.declared.Class.{Class}
use Rattle.policy.proofs.Laws.{attrs-length}
use Rattle.formulas.specs.Value.{attr_of}
use Rattle.formulas.proofs.TableLaws.{none-bits, none-size, attr-at}
use Rattle.sides.specs.Side.{field_of}

module _ (c : Class) (k : ℕ) where
  pub field-none : c.count ≤ k → record { shift = 0; bits = 0; size = 0 } ≡ field_of (attrs_of c) k
  unfolding field_of attr_of width
  field-none h =
      let l = attrs_of c in
      let e : attr_of l k ≡ no_attr = get_or-eq_default l no_attr (omega (arith, attrs-length c)) in
      let w : width (drop (suc k) l) ≡ 0 = ap width (drop_of_length-le l {i = suc k} (omega (arith, attrs-length c))) in
      sym (rw (w, none-bits l k e, none-size l k e) refl)

  pub field-there : (shift right bits size : ℕ) → k < c.count → shift ≡ min right 8 → right ≡ width (drop (k + 1) (attrs_of c)) → bits ≡ bits_for (attr_at c k) → size ≡ (attr_at c k).size
      → record { shift = shift; bits = bits; size = size } ≡ field_of (attrs_of c) k
  unfolding field_of
  field-there shift right bits size h m w b s =
      let l = attrs_of c in
      let e : attr_of l k ≡ attr_at c k = attr-at c k h in
      let d : right ≡ width (drop (suc k) l) = w ∙ ap (λ (n : ℕ). width (drop n l)) (add-one k) in
      sym (rw (sym d, e, sym b, sym s, sym m) refl)

-- one bit, from bit k on
pub one_shl : (k : ℕ) → k < 8 → 1 * 2 ^ k % 2 ^ 64 ≡ 2 ^ k
one_shl k h = shl_exact 1 k 64 (omega arith) (omega arith) ∙ one-mul (2 ^ k)
