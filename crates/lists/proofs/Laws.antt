-- Laws of values in the lists. In order: a test that begins at 0; the attributes of a class from a place on: their width, and values in
-- their lists; list numbers do not matter; what being listed says, and what is listed.
use mathlib.Core.Path.{◌≡◌, refl, sym, ap, ap₂, ◌∙◌}
use mathlib.Core.Bool.{Bool, true, false, ◌&&◌}
use mathlib.Core.List.{List, [], ◌∷◌}
use mathlib.Core.Option.{none}
use Prim.Native.Nat.{ℕ, suc, ◌+◌, ◌-◌, ◌/◌, ◌%◌, ◌^◌, ◌≤◌, ◌<◌}
use native.Mathlib.Numerals.{add-one}
use native.Mathlib.Omega.{arith}
use borrow.Author.Tests.{ltb-true, lt-ltb, eq-eqb, le-leb}
use lib.Dec.{ltb, eqb}
use lib.ListN.{drop, drop_of_length-le}
use lib.Pow.{pow_mono}
use lib.Seq.{drop-cons}
use Rattle.bits.proofs.Set.{both_true}
use Rattle.format.specs.Format.{within, field, via}
use Rattle.format.proofs.Law.{judged-field, judged-pair}
use Rattle.policy.specs.Policy.{Attr, no_attr, unlisted, bits_for, codes, width}
use Rattle.policy.specs.File.{value_format}
use Rattle.policy.specs.Rules.{attr_at, attrs_of}
use Rattle.policy.specs.declared.Class.{Class}
use Rattle.policy.proofs.Laws.{attrs-length, attrs-at, codes-unlisted, width-unlisted, value-lt}
use Rattle.lists.specs.Lists.{in_lists, listed}

pub within-is : (n x : ℕ) → within 0 n x ≡ ltb x n
unfolding within
within-is n x = ap (λ (t : Bool). t && ltb x n) (le-leb 0 x (omega arith))

-- the attributes of a class from a place on

module _ (c : Class) where
  -- the first of them
  later_first : (k : ℕ) → k < c.count → drop k (attrs_of c) ≡ attr_at c k ∷ drop (k + 1) (attrs_of c)
  later_first k h =
      drop-cons (attrs_of c) k no_attr (omega (arith, attrs-length c))
      ∙ ap (λ (a : Attr). a ∷ drop (suc k) (attrs_of c)) (attrs-at c k no_attr h)
      ∙ ap (λ (n : ℕ). attr_at c k ∷ drop n (attrs_of c)) (sym (add-one k))

  pub later-width : (k : ℕ) → k < c.count → width (drop k (attrs_of c)) ≡ bits_for (attr_at c k) + width (drop (k + 1) (attrs_of c))
  unfolding width
  later-width k h = ap width (later_first k h)

  later-in : (k v : ℕ) → k < c.count →
      in_lists (drop k (attrs_of c)) v
      ≡ within 0 (codes (attr_at c k)) (v / 2 ^ width (drop (k + 1) (attrs_of c)))
      && in_lists (drop (k + 1) (attrs_of c)) (v % 2 ^ width (drop (k + 1) (attrs_of c)))
  unfolding in_lists
  later-in k v h =
      let l = drop (k + 1) (attrs_of c) in
      let m = 2 ^ width l in
      ap (λ (l : List Attr). in_lists l v) (later_first k h)
      ∙ ap (λ (t : Bool). t && in_lists l (v % m)) (sym (within-is (codes (attr_at c k)) (v / m)))

  -- no attribute is left
  pub in-none : (k v : ℕ) → c.count ≤ k → in_lists (drop k (attrs_of c)) v ≡ eqb v 0
  unfolding in_lists
  in-none k v h = ap (λ (l : List Attr). in_lists l v) (drop_of_length-le (attrs_of c) {i = k} (omega (arith, attrs-length c)))

  module _ (k v left : ℕ) (h : k < c.count) (w : left ≡ width (drop (k + 1) (attrs_of c))) where
    pub in-next : in_lists (drop k (attrs_of c)) v ≡ within 0 (codes (attr_at c k)) (v / 2 ^ left) && in_lists (drop (k + 1) (attrs_of c)) (v % 2 ^ left)
    in-next =
        later-in k v h
        ∙ ap (λ (n : ℕ). within 0 (codes (attr_at c k)) (v / 2 ^ n) && in_lists (drop (k + 1) (attrs_of c)) (v % 2 ^ n)) (sym w)

    -- the first has such a code: what is left is in the others' lists
    pub in_rest : within 0 (codes (attr_at c k)) (v / 2 ^ left) ≡ true → in_lists (drop k (attrs_of c)) v ≡ in_lists (drop (k + 1) (attrs_of c)) (v % 2 ^ left)
    in_rest e = in-next ∙ ap (λ (t : Bool). t && in_lists (drop (k + 1) (attrs_of c)) (v % 2 ^ left)) e

    -- it has none
    pub in-not : within 0 (codes (attr_at c k)) (v / 2 ^ left) ≡ false → in_lists (drop k (attrs_of c)) v ≡ false
    in-not e = in-next ∙ ap (λ (t : Bool). t && in_lists (drop (k + 1) (attrs_of c)) (v % 2 ^ left)) e

-- the bits that are left for the attributes from a place on, and for those after it
module _ (c : Class) (k left bits : ℕ) (h : k < c.count) (w : left ≡ width (drop k (attrs_of c))) (b : bits ≡ bits_for (attr_at c k)) where
  pub left_after : left - bits ≡ width (drop (k + 1) (attrs_of c))
  left_after = omega (arith, later-width c k h)

  pub left_enough : bits ≤ left
  left_enough = omega (arith, later-width c k h)

-- list numbers do not matter

pub in-unlisted : (l : List Attr) (v : ℕ) → in_lists (unlisted l) v ≡ in_lists l v
unfolding in_lists unlisted
in-unlisted [] v = refl
in-unlisted (a ∷ l) v =
    ap (λ (w : ℕ). ltb (v / 2 ^ w) (codes record { kind = a.kind; size = a.size; list = 0 }) && in_lists (unlisted l) (v % 2 ^ w)) (width-unlisted l)
    ∙ ap₂ ◌&&◌ (ap (ltb (v / 2 ^ width l)) (codes-unlisted a)) (in-unlisted l (v % 2 ^ width l))

pub listed-unlisted : (l : List Attr) (v : ℕ) → listed (unlisted l) v ≡ listed l v
unfolding listed
listed-unlisted l v = ap (λ (t : Bool). ltb v 256 && t) (in-unlisted l v)

-- what is listed

module _ (l : List Attr) (v : ℕ) where
  pub listed_in : v < 256 → listed l v ≡ in_lists l v
  unfolding listed
  listed_in h = ap (λ (t : Bool). t && in_lists l v) (lt-ltb v 256 h)

  pub listed-byte : listed l v ≡ true → v < 256
  unfolding listed
  listed-byte e = ltb-true v 256 (both_true (ltb v 256) (in_lists l v) e).0

judged-in : (l : List Attr) (v : ℕ) → (value_format l).judge v ≡ none → in_lists l v ≡ true
unfolding value_format in_lists via
judged-in [] v j = eq-eqb v 0 (omega (arith, (judged-field 0 _ 6 v j).0))
judged-in (a ∷ l) v j =
    let m = 2 ^ width l in
    let p = judged-pair (field (bits_for a) (within 0 (codes a)) 6) (λ _. value_format l) (v / m) (v % m) j in
    ap (λ (t : Bool). t && in_lists l (v % m)) (sym (within-is (codes a) (v / m)) ∙ (judged-field (bits_for a) (within 0 (codes a)) 6 (v / m) p.0).1)
    ∙ judged-in l (v % m) p.1

-- a value that the format takes, where a holder's value is a byte
pub judged-listed : (l : List Attr) (v : ℕ) → width l ≤ 8 → (value_format l).judge v ≡ none → listed l v ≡ true
judged-listed l v w j =
    let m : 2 ^ width l ≤ 2 ^ 8 = pow_mono w in
    listed_in l v (omega (arith, value-lt l v j)) ∙ judged-in l v j
