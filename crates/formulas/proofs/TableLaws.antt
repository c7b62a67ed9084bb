-- Laws of tables of operands. In order: a place that is stored for two holders; their places filled in from the last to the first; a table whose
-- first holders are filled in: none, one or two more, all; attributes that are not there; the width of the later ones; an attribute's part, what
-- stands left of it, and its list's size.
use mathlib.Core.Path.{◌≡◌, refl, sym, ap, ◌∙◌, subst}
use mathlib.Core.List.{List}
use Prim.Native.Nat.{ℕ, zero, suc, ◌+◌, ◌*◌, ◌-◌, ◌/◌, ◌%◌, ◌^◌, ◌<◌, ◌≤◌, min}
use mathlib.Core.Bool.{cond}
use native.Mathlib.Decide.{dec_lt, ℕ_discrete}
use native.Mathlib.Numerals.{add-one}
use native.Mathlib.Omega.{arith}
use borrow.Author.Tests.{le-ltb, ne_eqb}
use lib.Dec.{eqb}
use lib.ListN.{length, get_or, set, drop, replicate, length-set, length-replicate, get_or-replicate, drop_of_length-le, get_or-eq_default}
use lib.Pow.{shr-shr}
use lib.Seq.{get_or-set_same, get_or-set_other, ext_get_or, drop-cons}
use Rattle.bits.specs.Packed.{tab}
use Rattle.bits.proofs.Packed.{length-tab, get_or-tab}
use Rattle.policy.specs.Policy.{Attr, no_attr, fewest_from, fewest_bits, bits_for, width}
use Rattle.policy.specs.Nodes.{holder_of, place_of, of_holder}
use Rattle.policy.specs.Rules.{as_attr, no_attribute, attr_at, attrs_of, lists_of}
use Rattle.policy.specs.declared.Class.{Class}
use Rattle.policy.specs.declared.Classes.{Classes}
use Rattle.policy.proofs.Laws.{attrs-length, attrs-at}
use Rattle.formulas.specs.Value.{attr_of, part_of, held_by, operand, size_of_operand}
use Rattle.formulas.specs.Parts.{placed, Filling, Table, value_at, size_at}
use Rattle.formulas.specs.declared.Holders.{Holders}
use Rattle.formulas.proofs.BitLaws.{byte_low, byte_high}

module _ (t : List ℕ) (g h k x y : ℕ) where
  placed-length : length (placed t g h k x y) ≡ length t
  unfolding placed
  placed-length = length-set (set t (32 * g + k) x) (32 * h + k) y ∙ length-set t (32 * g + k) x

  -- the place of the holder h
  placed-last : (z : ℕ) → z < length t → holder_of z ≡ h → place_of z ≡ k → get_or (placed t g h k x y) z 0 ≡ y
  unfolding placed holder_of place_of
  placed-last z l e d =
      let i : z ≡ 32 * h + k = omega arith in
      ap (λ (j : ℕ). get_or (set (set t (32 * g + k) x) (32 * h + k) y) j 0) i
      ∙ get_or-set_same (set t (32 * g + k) x) (32 * h + k) y 0 (omega (arith, length-set t (32 * g + k) x))

  -- that of the holder g, where it is another
  placed_first : (z : ℕ) → z < length t → holder_of z ≡ g → (g ≡ h → ⊥) → place_of z ≡ k → get_or (placed t g h k x y) z 0 ≡ x
  unfolding placed holder_of place_of
  placed_first z l e n d =
      let i : z ≡ 32 * g + k = omega arith in
      get_or-set_other (set t (32 * g + k) x) (32 * h + k) z y 0 (λ o. n (omega arith))
      ∙ ap (λ (j : ℕ). get_or (set t (32 * g + k) x) j 0) i ∙ get_or-set_same t (32 * g + k) x 0 (omega arith)

  -- any other
  placed-other : (z : ℕ) → k < 32 → (holder_of z ≡ g → place_of z ≡ k → ⊥) → (holder_of z ≡ h → place_of z ≡ k → ⊥) → get_or (placed t g h k x y) z 0 ≡ get_or t z 0
  unfolding placed holder_of place_of
  placed-other z l m n =
      get_or-set_other (set t (32 * g + k) x) (32 * h + k) z y 0 (λ e. n (omega arith) (omega arith))
      ∙ get_or-set_other t (32 * g + k) z x 0 (λ e. m (omega arith) (omega arith))

place-lt : (x : ℕ) → place_of x < 32
unfolding place_of
place-lt x = omega arith

module _ (part : ℕ → ℕ → ℕ) (g h : ℕ) (old : List ℕ) where
  pub fill_start : (k : ℕ) → ((i p : ℕ) → k ≤ p → p < 32 → part i p ≡ 0) → Filling part g h k old old
  fill_start k none =
      record { same_length = refl; inside = λ x l a b m z. z ∙ sym (none (holder_of x) (place_of x) m (place-lt x)); outside = λ x n. refl }

  pub fill-next : (k j y z : ℕ) (new after : List ℕ) → h ≤ g + 1 → g ≤ h → Filling part g h k old new → k ≡ j + 1 → j < 32 → ((g ≡ h → ⊥) → y ≡ part g j) → z ≡ part h j →
      after ≡ placed new g h j y z → Filling part g h j old after
  fill-next k j y z new after near order f e low first last is =
      rw is
      record {
        same_length = placed-length new g h j y z ∙ f.same_length;
        inside = λ x l a b m n. go x l a b m n (dec_lt j (place_of x)) (ℕ_discrete (holder_of x) h);
        outside =
            λ x n.
            placed-other new g h j y z x low (λ a o. let q = n (omega arith) (omega arith) in absurd (omega arith)) (λ a o. let q = n (omega arith) (omega arith) in absurd (omega arith))
            ∙ f.outside x (λ a b. let q = n a b in omega arith);
      }
    where
      go : (x : ℕ) → x < length old → g ≤ holder_of x → holder_of x ≤ h → j ≤ place_of x → get_or old x 0 ≡ 0 → Dec (j < place_of x) → Dec (holder_of x ≡ h) →
          get_or (placed new g h j y z) x 0 ≡ part (holder_of x) (place_of x)
      go x l a b m n (yes q) _ = placed-other new g h j y z x low (λ _ o. omega arith) (λ _ o. omega arith) ∙ f.inside x l a b (omega arith) n
      go x l a b m n (no q) (yes i) =
          let o : place_of x ≡ j = omega arith in
          placed-last new g h j y z x (omega (arith, f.same_length)) i o ∙ last ∙ sym (rw (i, o) refl)
      go x l a b m n (no q) (no i) =
          let o : place_of x ≡ j = omega arith in
          let w : holder_of x ≡ g = omega arith in
          let d : g ≡ h → ⊥ = λ u. i (omega arith) in
          placed_first new g h j y z x (omega (arith, f.same_length)) w d o ∙ first d ∙ sym (rw (w, o) refl)

  pub fill_end : (k : ℕ) (new : List ℕ) → Filling part g h k old new → k ≡ 0 → Filling part g h 0 old new
  fill_end k new f e = subst (λ (j : ℕ). Filling part g h j old new) e f

module _ (part : ℕ → ℕ → ℕ) where
  pub table-start : Table part 0 (replicate 256 0)
  table-start =
      record { size = length-replicate {A = ℕ} 256 0; done = λ x l h. absurd (omega arith); rest = λ x l h. get_or-replicate 256 x 0 0 l }

  pub table-next : (g h k : ℕ) (q : ℕ → ℕ → ℕ) (t u : List ℕ) → k ≡ h + 1 → g ≤ h → Table part g t → Filling q g h 0 t u → ((i p : ℕ) → g ≤ i → i ≤ h → q i p ≡ part i p) → Table part k u
  table-next g h k q t u e order a f same =
      record {
        size = f.same_length ∙ a.size;
        done = λ x l m. go x l m (dec_lt (holder_of x) g);
        rest = λ x l m. f.outside x (λ n o. absurd (omega arith)) ∙ a.rest x l (omega arith);
      }
    where
      go : (x : ℕ) → x < 256 → holder_of x < k → Dec (holder_of x < g) → get_or u x 0 ≡ part (holder_of x) (place_of x)
      go x l m (yes n) = f.outside x (λ o r. absurd (omega arith)) ∙ a.done x l n
      go x l m (no n) =
          f.inside x (omega (arith, a.size)) (omega arith) (omega arith) (omega arith) (a.rest x l (omega arith))
          ∙ same (holder_of x) (place_of x) (omega arith) (omega arith)

  pub table-all : (h : ℕ) (t : List ℕ) (whole : ℕ → ℕ) → Table part h t → ((x : ℕ) → whole x ≡ part (holder_of x) (place_of x)) →
      ((i p : ℕ) → h ≤ i → part i p ≡ 0) → t ≡ tab whole 0 256
  table-all h t whole a is none =
      ext_get_or 0 t (tab whole 0 256) (a.size ∙ sym (length-tab whole 0 256))
      (λ x l. let m : x < 256 = omega (arith, a.size) in go x m (dec_lt (holder_of x) h) ∙ sym (is x) ∙ sym (get_or-tab whole 0 256 x 0 m ∙ ap whole (omega arith)))
    where
      go : (x : ℕ) → x < 256 → Dec (holder_of x < h) → get_or t x 0 ≡ part (holder_of x) (place_of x)
      go x l (yes n) = a.done x l n
      go x l (no n) = a.rest x l (omega arith) ∙ sym (none (holder_of x) (place_of x) (omega arith))

-- attributes

no_bits : bits_for no_attr ≡ 0
unfolding no_attr bits_for fewest_bits fewest_from
no_bits = refl

-- an attribute that is not there takes no bits
pub none-bits : (l : List Attr) (k : ℕ) → attr_of l k ≡ no_attr → bits_for (attr_of l k) ≡ 0
none-bits l k e = ap bits_for e ∙ no_bits

pub none-part : (l : List Attr) (v k : ℕ) → attr_of l k ≡ no_attr → part_of l k v ≡ 0
unfolding part_of
none-part l v k e =
    ap (λ (z : ℕ). v / 2 ^ width (drop (suc k) l) % 2 ^ z) (none-bits l k e) ∙ omega arith

pub none-size : (l : List Attr) (k : ℕ) → attr_of l k ≡ no_attr → (attr_of l k).size ≡ 0
unfolding no_attr
none-size l k e = ap (λ (a : Attr). a.size) e

pub attr-at : (c : Class) (k : ℕ) → k < c.count → attr_of (attrs_of c) k ≡ attr_at c k
unfolding attr_of
attr-at c k h = attrs-at c k no_attr h

-- no attribute is later than the last
pub later-none : (c : Class) → width (drop c.count (attrs_of c)) ≡ 0
unfolding width
later-none c = ap width (drop_of_length-le (attrs_of c) {i = c.count} (omega (arith, attrs-length c)))

-- one attribute more
pub later_more : (c : Class) (k : ℕ) → k < c.count → width (drop k (attrs_of c)) ≡ bits_for (attr_at c k) + width (drop (k + 1) (attrs_of c))
unfolding width
later_more c k h =
    ap width (drop-cons (attrs_of c) k no_attr (omega (arith, attrs-length c)))
    ∙ ap (λ (a : Attr). bits_for a + width (drop (suc k) (attrs_of c))) (attrs-at c k no_attr h)
    ∙ ap (λ (n : ℕ). bits_for (attr_at c k) + width (drop n (attrs_of c))) (sym (add-one k))

-- a class has as many attributes as it counts, and no more than there is room for
pub none-past : (c : Class) (k : ℕ) → length c.attributes ≤ 8 → min c.count 8 ≤ k → attr_of (attrs_of c) k ≡ no_attr
unfolding attr_of attr_at no_attr
none-past c k r h = go (dec_lt k c.count)
  where
    go : Dec (k < c.count) → attr_of (attrs_of c) k ≡ no_attr
    go (yes l) = attr-at c k l ∙ ap as_attr (get_or-eq_default c.attributes no_attribute (omega arith))
    go (no l) = get_or-eq_default (attrs_of c) no_attr (omega (arith, attrs-length c))

-- those that are not there have no width
pub later-past : (c : Class) (k : ℕ) → ((p : ℕ) → k ≤ p → attr_of (attrs_of c) p ≡ no_attr) → width (drop k (attrs_of c)) ≡ 0
unfolding width
later-past c k none = go (dec_lt k c.count)
  where
    from : (n j : ℕ) → k ≤ j → j + n ≡ c.count → width (drop j (attrs_of c)) ≡ 0
    from zero j l e =
        let d : j ≡ c.count = omega arith in
        ap (λ (i : ℕ). width (drop i (attrs_of c))) d ∙ later-none c
    from (suc n) j l e =
        let b : bits_for (attr_at c j) ≡ 0 = ap bits_for (sym (attr-at c j (omega arith)) ∙ none j l) ∙ no_bits in
        let i = from n (j + 1) (omega arith) (omega arith) in
        later_more c j (omega arith) ∙ omega (arith, b, i)

    go : Dec (k < c.count) → width (drop k (attrs_of c)) ≡ 0
    go (yes l) = from (c.count - k) k (omega arith) (omega arith)
    go (no l) = ap width (drop_of_length-le (attrs_of c) {i = k} (omega (arith, attrs-length c)))

-- an attribute's part, by what stands left of the later ones
pub part_at : (c : Class) (v k x bits : ℕ) → k < c.count → x ≡ v / 2 ^ width (drop (k + 1) (attrs_of c)) → x ≤ 255 → bits ≡ min (bits_for (attr_at c k)) 8 →
    x % 2 ^ bits ≡ part_of (attrs_of c) k v
unfolding part_of
part_at c v k x bits h e small d =
    ap (λ (z : ℕ). x % 2 ^ z) d ∙ byte_low x (bits_for (attr_at c k)) small
    ∙ ap (λ (z : ℕ). x % 2 ^ z) (ap bits_for (sym (attr-at c k h)))
    ∙ ap (λ (z : ℕ). z % 2 ^ bits_for (attr_of (attrs_of c) k)) (e ∙ ap (λ (n : ℕ). v / 2 ^ width (drop n (attrs_of c))) (add-one k))

-- what stands left of it too
pub left_at : (c : Class) (v k x bits : ℕ) → k < c.count → x ≡ v / 2 ^ width (drop (k + 1) (attrs_of c)) → x ≤ 255 → bits ≡ min (bits_for (attr_at c k)) 8 →
    x / 2 ^ bits ≡ v / 2 ^ width (drop k (attrs_of c))
left_at c v k x bits h e small d =
    ap (λ (z : ℕ). x / 2 ^ z) d ∙ byte_high x (bits_for (attr_at c k)) small
    ∙ ap (λ (z : ℕ). z / 2 ^ bits_for (attr_at c k)) e
    ∙ shr-shr v (width (drop (k + 1) (attrs_of c))) (bits_for (attr_at c k))
    ∙ ap (λ (z : ℕ). v / 2 ^ z) (omega (arith, later_more c k h))

pub size-at : (c : Class) (k : ℕ) → k < c.count → (attr_at c k).size ≡ (attr_of (attrs_of c) k).size
size-at c k h = sym (ap (λ (a : Attr). a.size) (attr-at c k h))

-- all operands, filled in one class after another

one_of_two : (P : ℕ → Type 0) (g h : ℕ) → h ≤ g + 1 → P g → P h → (i : ℕ) → g ≤ i → i ≤ h → P i
one_of_two P g h near a b i l m = go (ℕ_discrete i g)
  where
    go : Dec (i ≡ g) → P i
    go (yes e) = subst P (sym e) a
    go (no e) = let d : h ≡ i = omega arith in subst P d b

module _ (c : Classes) (v : Holders) where
  operand-places : (x : ℕ) → operand (lists_of c) v x ≡ value_at (lists_of c) v (holder_of x) (place_of x)
  unfolding operand value_at
  operand-places x = refl

  value_none : (h k : ℕ) → 6 ≤ h → value_at (lists_of c) v h k ≡ 0
  unfolding value_at
  value_none h k l = simp (le-ltb h 5 (omega arith), ne_eqb h 5 (λ e. omega arith))

  pub all-values : (t t₀ t₁ t₂ t₃ : List ℕ) → t ≡ replicate 256 0 →
      Filling (λ i k. part_of (attrs_of c.user) k (cond (eqb i 0) v.user v.user)) 0 0 0 t t₀ →
      Filling (λ i k. part_of (attrs_of c.session) k (cond (eqb i 2) v.newsession v.session)) 1 2 0 t₀ t₁ →
      Filling (λ i k. part_of (attrs_of c.item) k (cond (eqb i 4) v.newitem v.item)) 3 4 0 t₁ t₂ →
      Filling (λ i k. k) 5 5 0 t₂ t₃ →
      t₃ ≡ tab (operand (lists_of c) v) 0 256
  unfolding value_at lists_of of_holder held_by
  all-values t t₀ t₁ t₂ t₃ z a b d e =
      let p = value_at (lists_of c) v in
      let s : Table p 0 t = rw z (table-start p) in
      table-all p 6 t₃ (operand (lists_of c) v)
      (table-next p 5 5 6 _ t₂ t₃ refl (omega arith)
      (table-next p 3 4 5 _ t₁ t₂ refl (omega arith)
      (table-next p 1 2 3 _ t₀ t₁ refl (omega arith)
      (table-next p 0 0 1 _ t t₀ refl (omega arith) s a
      (λ i k. one_of_two (λ i. part_of (attrs_of c.user) k (cond (eqb i 0) v.user v.user) ≡ p i k) 0 0 (omega arith) refl refl i))
      b (λ i k. one_of_two (λ i. part_of (attrs_of c.session) k (cond (eqb i 2) v.newsession v.session) ≡ p i k) 1 2 (omega arith) refl refl i))
      d (λ i k. one_of_two (λ i. part_of (attrs_of c.item) k (cond (eqb i 4) v.newitem v.item) ≡ p i k) 3 4 (omega arith) refl refl i))
      e (λ i k. one_of_two (λ i. k ≡ p i k) 5 5 (omega arith) refl refl i))
      operand-places value_none

module _ (c : Classes) where
  size-places : (x : ℕ) → size_of_operand (lists_of c) x ≡ size_at (lists_of c) (holder_of x) (place_of x)
  unfolding size_of_operand size_at
  size-places x = refl

  size_none : (h k : ℕ) → 5 ≤ h → size_at (lists_of c) h k ≡ 0
  unfolding size_at
  size_none h k l = simp (le-ltb h 5 l)

  pub all-sizes : (t t₀ t₁ t₂ : List ℕ) → t ≡ replicate 256 0 →
      Filling (λ i k. (attr_of (attrs_of c.user) k).size) 0 0 0 t t₀ →
      Filling (λ i k. (attr_of (attrs_of c.session) k).size) 1 2 0 t₀ t₁ →
      Filling (λ i k. (attr_of (attrs_of c.item) k).size) 3 4 0 t₁ t₂ →
      t₂ ≡ tab (size_of_operand (lists_of c)) 0 256
  unfolding size_at lists_of of_holder
  all-sizes t t₀ t₁ t₂ z a b d =
      let p = size_at (lists_of c) in
      let s : Table p 0 t = rw z (table-start p) in
      table-all p 5 t₂ (size_of_operand (lists_of c))
      (table-next p 3 4 5 _ t₁ t₂ refl (omega arith)
      (table-next p 1 2 3 _ t₀ t₁ refl (omega arith)
      (table-next p 0 0 1 _ t t₀ refl (omega arith) s a
      (λ i k. one_of_two (λ i. (attr_of (attrs_of c.user) k).size ≡ p i k) 0 0 (omega arith) refl refl i))
      b (λ i k. one_of_two (λ i. (attr_of (attrs_of c.session) k).size ≡ p i k) 1 2 (omega arith) refl refl i))
      d (λ i k. one_of_two (λ i. (attr_of (attrs_of c.item) k).size ≡ p i k) 3 4 (omega arith) refl refl i))
      size-places size_none
