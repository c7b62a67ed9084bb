-- Only the low bits of a packed value matter: those of its holder's attributes. In order: bits within low bits; an attribute's part; the number of an
-- operand; what comparisons, nodes and formulas say; holders whose values are cut to the values that are told apart.
use mathlib.Core.Path.{◌≡◌, refl, sym, ap, ◌∙◌}
use mathlib.Core.Bool.{Bool, false, cond}
use mathlib.Core.List.{List, [], ◌∷◌, ◌++◌}
use Prim.Native.Nat.{ℕ, zero, suc, ◌+◌, ◌-◌, ◌/◌, ◌%◌, ◌^◌, ◌≤◌, ◌<◌, min}
use native.Mathlib.Decide.{dec_lt, ℕ_discrete}
use native.Mathlib.Nat.{mod-eq_of_lt, min-eq_left, min-eq_right}
use native.Mathlib.Omega.{arith}
use borrow.Author.Tests.{lt-ltb, le-ltb, eq-eqb, ne_eqb}
use lib.Dec.{ltb, eqb}
use lib.ListN.{length, get_or, drop, get_or-eq_default}
use lib.Pow.{field, mod-mod-pow, pow_mono}
use Rattle.policy.specs.Policy.{Attr, no_attr, Lists, bits_for, width}
use Rattle.policy.specs.Nodes.{op_of, first_of, second_of, holder_of, place_of, of_holder}
use Rattle.formulas.specs.Value.{attr_of, part_of, operand}
use Rattle.formulas.specs.Meaning.{compared, node_says, said, holds}
use Rattle.formulas.proofs.TableLaws.{none-part}
use Rattle.dependence.specs.Answers.{holders_of}
use Rattle.dependence.proofs.Operands.{held_of}
use Rattle.prepared.specs.Prepared.{room_of, holders}

-- b bits from s on are among the w low ones
bits-cut : (v s b w : ℕ) → s + b ≤ w → v % 2 ^ w / 2 ^ s % 2 ^ b ≡ v / 2 ^ s % 2 ^ b
bits-cut v s b w l =
    let j = w - s - b in
    let e : w ≡ j + b + s = omega arith in
    ap (λ (z : ℕ). v % 2 ^ z / 2 ^ s % 2 ^ b) e ∙ ap (λ (z : ℕ). z % 2 ^ b) (field v (j + b) s) ∙ mod-mod-pow (v / 2 ^ s) j b

bits-within : (l : List Attr) (k : ℕ) → k < length l → width (drop (suc k) l) + bits_for (attr_of l k) ≤ width l
unfolding width attr_of
bits-within [] k h = absurd (omega arith)
bits-within (a ∷ l) zero h = omega arith
bits-within (a ∷ l) (suc k) h = omega (arith, bits-within l k (omega arith))

part_cut : (l : List Attr) (k v : ℕ) → part_of l k (v % 2 ^ width l) ≡ part_of l k v
unfolding part_of attr_of
part_cut l k v = go (dec_lt k (length l))
  where
    go : Dec (k < length l) → part_of l k (v % 2 ^ width l) ≡ part_of l k v
    go (yes h) = bits-cut v (width (drop (suc k) l)) (bits_for (attr_of l k)) (width l) (bits-within l k h)
    go (no h) =
        let none : attr_of l k ≡ no_attr = get_or-eq_default l no_attr (omega arith) in
        none-part l (v % 2 ^ width l) k none ∙ sym (none-part l v k none)

-- of values below 256 those of its bits are told apart
room-part : (c : Lists) (h k v : ℕ) → h < 5 → v < 256 → part_of (of_holder c h) k (v % room_of c h) ≡ part_of (of_holder c h) k v
unfolding room_of
room-part c h k v l q = ap (λ (n : ℕ). part_of (of_holder c h) k (v % n)) room ∙ go (dec_lt w 8)
  where
    w : ℕ
    w = width (of_holder c h)

    room : room_of c h ≡ min (2 ^ w) 256
    room = ap (λ (b : Bool). cond b (min (2 ^ w) 256) 1) (lt-ltb h 5 l)

    go : Dec (w < 8) → part_of (of_holder c h) k (v % min (2 ^ w) 256) ≡ part_of (of_holder c h) k v
    go (yes s) =
        ap (λ (n : ℕ). part_of (of_holder c h) k (v % n)) (min-eq_left (pow_mono {i = w} {j = 8} (omega arith))) ∙ part_cut (of_holder c h) k v
    go (no s) =
        ap (λ (n : ℕ). part_of (of_holder c h) k (v % n)) (min-eq_right (pow_mono {i = 8} {j = w} (omega arith)))
        ∙ ap (part_of (of_holder c h) k) (mod-eq_of_lt q)

-- packed values whose parts are the same
module _ (c : Lists) (f g : ℕ → ℕ) (same : (h k : ℕ) → h < 5 → part_of (of_holder c h) k (f h) ≡ part_of (of_holder c h) k (g h)) where
  operand-alike : (x : ℕ) → operand c (holders_of f) x ≡ operand c (holders_of g) x
  unfolding operand
  operand-alike x = go (dec_lt (holder_of x) 5)
    where
      go : Dec (holder_of x < 5) → operand c (holders_of f) x ≡ operand c (holders_of g) x
      go (yes l) =
          let h = holder_of x in
          ap (λ (n : ℕ). cond (ltb h 5) n (cond (eqb h 5) (place_of x) 0))
          (ap (part_of (of_holder c h) (place_of x)) (held_of f h l) ∙ same h (place_of x) l ∙ sym (ap (part_of (of_holder c h) (place_of x)) (held_of g h l)))
      go (no l) = simp (le-ltb (holder_of x) 5 (omega arith))

  compared-alike : (op a b : ℕ) → compared c (holders_of f) op a b ≡ compared c (holders_of g) op a b
  unfolding compared
  compared-alike op a b = rw (operand-alike a, operand-alike b) refl

  node_alike : (before : List Bool) (node : ℕ) → node_says c (holders_of f) before node ≡ node_says c (holders_of g) before node
  unfolding node_says
  node_alike before node = rw (compared-alike (op_of node) (first_of node) (second_of node)) refl

  said-alike : (nodes : List ℕ) (n : ℕ) → said c (holders_of f) nodes n ≡ said c (holders_of g) nodes n
  unfolding said
  said-alike nodes zero = refl
  said-alike nodes (suc n) =
      let x = get_or nodes n 0 in
      let before = said c (holders_of g) nodes n in
      ap (λ (l : List Bool). l ++ node_says c (holders_of f) l x ∷ []) (said-alike nodes n) ∙ ap (λ (b : Bool). before ++ b ∷ []) (node_alike before x)

  holds-alike : (nodes : List ℕ) → holds c (holders_of f) nodes ≡ holds c (holders_of g) nodes
  unfolding holds
  holds-alike nodes = ap (λ (l : List Bool). get_or l (length nodes - 1) false) (said-alike nodes (length nodes))

-- the packed value of holder h among those of `holders`
module _ (L R O o r v : ℕ) where
  unfoldable pub value_for : ℕ → ℕ
  value_for h = cond (eqb h L) v (cond (eqb h R) r (cond (eqb h O) o 0))

  value-lane : (h : ℕ) → h ≡ L → value_for h ≡ v
  unfolding value_for
  value-lane h e = simp (eq-eqb h L e)

  module _ (h : ℕ) (a : h ≡ L → ⊥) where
    value_row : h ≡ R → value_for h ≡ r
    unfolding value_for
    value_row e = simp (ne_eqb h L a, eq-eqb h R e)

    module _ (b : h ≡ R → ⊥) where
      value-outer : h ≡ O → value_for h ≡ o
      unfolding value_for
      value-outer e = simp (ne_eqb h L a, ne_eqb h R b, eq-eqb h O e)

      value_none : (h ≡ O → ⊥) → value_for h ≡ 0
      unfolding value_for
      value_none d = simp (ne_eqb h L a, ne_eqb h R b, ne_eqb h O d)

-- a formula says the same of the outer and the row value that are told apart
pub reduced : (c : Lists) (nodes : List ℕ) (L R O o r v : ℕ) → o < 256 → r < 256
    → holds c (holders L R O (o % room_of c O) (r % room_of c R) v) nodes ≡ holds c (holders L R O o r v) nodes
unfolding holders value_for
reduced c nodes L R O o r v p q =
    holds-alike c (value_for L R O (o % room_of c O) (r % room_of c R) v) (value_for L R O o r v) (λ h k l. go h k l (ℕ_discrete h L) (ℕ_discrete h R) (ℕ_discrete h O)) nodes
  where
    new : ℕ → ℕ
    new = value_for L R O (o % room_of c O) (r % room_of c R) v

    old : ℕ → ℕ
    old = value_for L R O o r v

    both : (h k x y : ℕ) → new h ≡ x → old h ≡ y → part_of (of_holder c h) k x ≡ part_of (of_holder c h) k y
        → part_of (of_holder c h) k (new h) ≡ part_of (of_holder c h) k (old h)
    both h k x y a b e = ap (part_of (of_holder c h) k) a ∙ e ∙ sym (ap (part_of (of_holder c h) k) b)

    go : (h k : ℕ) → h < 5 → Dec (h ≡ L) → Dec (h ≡ R) → Dec (h ≡ O) → part_of (of_holder c h) k (new h) ≡ part_of (of_holder c h) k (old h)
    go h k l (yes a) _ _ = both h k v v (value-lane L R O _ _ v h a) (value-lane L R O o r v h a) refl
    go h k l (no a) (yes b) _ =
        both h k _ r (value_row L R O _ _ v h a b) (value_row L R O o r v h a b)
        (ap (λ (x : ℕ). part_of (of_holder c h) k (r % room_of c x)) (sym b) ∙ room-part c h k r l q)
    go h k l (no a) (no b) (yes d) =
        both h k _ o (value-outer L R O _ _ v h a b d) (value-outer L R O o r v h a b d)
        (ap (λ (x : ℕ). part_of (of_holder c h) k (o % room_of c x)) (sym d) ∙ room-part c h k o l p)
    go h k l (no a) (no b) (no d) = both h k 0 0 (value_none L R O _ _ v h a b d) (value_none L R O o r v h a b d) refl
