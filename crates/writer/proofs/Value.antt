-- Laws of storing a holder's value attribute by attribute. In order: the attributes from one on, what is still to be stored, one turn, the end.
use mathlib.Core.Path.{◌≡◌, refl, sym, ap, ◌∙◌}
use mathlib.Core.Bool.{Bool, true}
use mathlib.Core.List.{List, [], ◌∷◌}
use Prim.Native.Nat.{ℕ, suc, ◌+◌, ◌-◌, ◌/◌, ◌%◌, ◌^◌, ◌<◌}
use native.Mathlib.Numerals.{add-one}
use native.Mathlib.Omega.{arith}
use Rattle.std.specs.Prelude.{Result, Ok, Err}
use Rattle.bits.specs.Packed.{tab}
use Rattle.bits.proofs.Packed.{tab-zero, tab-first}
use Rattle.format.specs.declared.Stopped.{Stopped}
use Rattle.refusal.specs.declared.Refusal.{Refusal}
use Rattle.format.specs.Format.{field, within}
use Rattle.format.specs.Steps.{Stores}
use Rattle.format.proofs.Store.{stores-pair, stores-first, stores-via, stores-field}
use Rattle.policy.specs.Policy.{Attr, bits_for, codes, width}
use Rattle.policy.specs.File.{value_format}
use Rattle.policy.specs.Rules.{attr_at, attrs_of}
use Rattle.policy.specs.declared.Class.{Class}

-- the attributes of a class from attribute i on
unfoldable pub attrs_from : Class → ℕ → List Attr
attrs_from class i = tab (attr_at class) i (class.count - i)

-- whoever goes on from the place p and stores x by the attributes from attribute i on has stored v by all of them from the place p₀ on
pub record Onward (class : Class) (v : ℕ) (o₀ : List ℕ) (p₀ : ℕ) (i x : ℕ) (o : List ℕ) (p : ℕ) : Type 0 where
  pub onward : {o' : List ℕ} {r : Result ℕ (Stopped Refusal)} → Stores (value_format (attrs_from class i)) x o o' p r → Stores (value_format (attrs_of class)) v o₀ o' p₀ r

module _ (class : Class) where
  pub from_all : attrs_from class 0 ≡ attrs_of class
  unfolding attrs_from attrs_of
  from_all = ap (tab (attr_at class) 0) (omega arith)

  from_end : attrs_from class class.count ≡ []
  unfolding attrs_from
  from_end = ap (tab (attr_at class) class.count) (omega arith) ∙ tab-zero _ _

  from_next : (i : ℕ) → i < class.count → attrs_from class i ≡ attr_at class i ∷ attrs_from class (i + 1)
  unfolding attrs_from
  from_next i h =
      let m = class.count - (i + 1) in
      let e : class.count - i ≡ suc m = omega arith in
      ap (tab (attr_at class) i) e ∙ tab-first (attr_at class) i m ∙ ap (λ (j : ℕ). attr_at class i ∷ tab (attr_at class) j m) (sym (add-one i))

  pub onward-begin : {v : ℕ} {o₀ : List ℕ} {p₀ : ℕ} → Onward class v o₀ p₀ 0 v o₀ p₀
  onward-begin = record { onward = λ s. rw from_all at s }

  pub onward-end : {v x : ℕ} {o₀ o o' : List ℕ} {p₀ p : ℕ} {r : Result ℕ (Stopped Refusal)} → Onward class v o₀ p₀ class.count x o p → Stores (field 0 (λ _. true) 6) x o o' p r
      → Stores (value_format (attrs_of class)) v o₀ o' p₀ r
  unfolding value_format
  onward-end k s = k.onward (rw from_end s)

  -- attribute i, which is a, takes w bits of the n that are left; its value y is what these bits of x say
  module _ (i : ℕ) {a : Attr} {w n : ℕ} (h : i < class.count) (here : a ≡ attr_at class i) (ew : w ≡ bits_for a) (en : n ≡ width (attrs_from class i)) where
    pub width-turn : n ≡ w + width (attrs_from class (i + 1))
    unfolding width
    width-turn = en ∙ rw (from_next i h, ← here, ← ew) refl

    left : n - w ≡ width (attrs_from class (i + 1))
    left = omega (arith, width-turn)

    module _ {x y : ℕ} {b : Bool} (eb : b ≡ within 0 (codes a) y) (ey : y ≡ x / 2 ^ (n - w)) {v : ℕ}
        {o₀ o o' : List ℕ} {p₀ p : ℕ} (before : Onward class v o₀ p₀ i x o p) where
      first_field : {r : Result ℕ (Stopped Refusal)} → Stores (field w (λ _. b) 6) y o o' p r
          → (let d = attr_at class i in Stores (field (bits_for d) (within 0 (codes d)) 6) (x / 2 ^ width (attrs_from class (i + 1))) o o' p r)
      first_field t = rw (← left, ← ey, ← here, ← ew) (stores-field w (within 0 (codes a)) 6 y eb t)

      -- it is stored
      pub onward-turn : {q z : ℕ} → z ≡ x % 2 ^ (n - w) → Stores (field w (λ _. b) 6) y o o' p (Ok q) → Onward class v o₀ p₀ (i + 1) z o' q
      unfolding value_format
      onward-turn {z = z} ez t =
          let e : z ≡ x % 2 ^ width (attrs_from class (i + 1)) = rw (← left) ez in
          record { onward = λ u. before.onward (rw (from_next i h) (stores-via _ _ _ x (stores-pair _ _ (first_field t) (rw e at u)))) }

      -- it is refused
      pub onward-stop : {stopped : Stopped Refusal} → Stores (field w (λ _. b) 6) y o o' p (Err stopped) → Stores (value_format (attrs_of class)) v o₀ o' p₀ (Err stopped)
      unfolding value_format
      onward-stop t = before.onward (rw (from_next i h) (stores-via _ _ _ x (stores-first _ _ (first_field t))))
