-- Laws of values that a formula cannot tell apart. In order: operands of values that agree; formulas whose comparisons say the same; one of each.
use mathlib.Core.Path.{◌≡◌, refl, sym, ap, ◌∙◌, subst}
use mathlib.Core.Bool.{Bool, cond}
use mathlib.Core.List.{List}
use Prim.Native.Nat.{ℕ, zero, suc, ◌+◌, ◌*◌, ◌/◌, ◌%◌, ◌^◌, ◌≤◌, ◌<◌, min}
use native.Mathlib.Decide.{ℕ_discrete, dec_lt}
use native.Mathlib.Nat.{zero-add}
use native.Mathlib.Omega.{arith}
use borrow.Author.Tests.{le-ltb, eq-eqb, ne_eqb}
use lib.Bits.{bit_and}
use lib.Dec.{eqb}
use lib.ListN.{length, get_or, drop}
use Rattle.bits.specs.Packed.{tab}
use Rattle.bits.proofs.Packed.{get_or-tab}
use Rattle.policy.specs.Policy.{Attr, Lists, bits_for, width}
use Rattle.policy.specs.Nodes.{op_of, first_of, second_of, holder_of, place_of, of_holder}
use Rattle.policy.specs.Rules.{nodes_of}
use Rattle.policy.proofs.Laws.{nodes-length}
use Rattle.formulas.specs.Value.{attr_of, part_of, held_by, operand}
use Rattle.alike.specs.Fields.{shift_in, bits_in}
use Rattle.formulas.specs.Meaning.{holds}
use Rattle.formulas.specs.declared.Holders.{Holders}
use Rattle.formulas.proofs.BitLaws.{byte_high}
use Rattle.formulas.proofs.Laws.{nodes-at}
use Rattle.dependence.specs.Answers.{holders_of, answer, leaf_of}
use Rattle.dependence.proofs.Answers.{answer-is, answer-last, holds-none, earlier-same, joined_same}
use Rattle.dependence.proofs.Operands.{held_of, operand-of, compared_same}
use Rattle.alike.specs.Alike.{Same, OneOfEach}
use Rattle.alike.specs.Mask.{Keeps, KeepsNode, OneOfEachIn}

-- an operand reads of its holder's value no more than its own part
operand-part : (c : Lists) (g h : Holders) (x : ℕ)
    → (holder_of x < 5 → part_of (of_holder c (holder_of x)) (place_of x) (held_by g (holder_of x)) ≡ part_of (of_holder c (holder_of x)) (place_of x) (held_by h (holder_of x)))
    → operand c g x ≡ operand c h x
unfolding operand
operand-part c g h x e = go (dec_lt (holder_of x) 5)
  where
    go : Dec (holder_of x < 5) → operand c g x ≡ operand c h x
    go (yes l) = rw (e l) refl
    go (no l) = simp (le-ltb (holder_of x) 5 (omega arith))

module _ (l : List Attr) (h x m : ℕ) (shifts bits : List ℕ) (S : shifts ≡ tab (shift_in l h) 0 256) (B : bits ≡ tab (bits_in l h) 0 256) (lt : x < 256)
    (e : holder_of x ≡ h) where
  shift_is : get_or shifts x 0 ≡ min (width (drop (suc (place_of x)) l)) 8
  unfolding shift_in
  shift_is =
      ap (λ (t : List ℕ). get_or t x 0) S ∙ get_or-tab (shift_in l h) 0 256 x 0 lt ∙ ap (shift_in l h) (zero-add x)
      ∙ ap (λ (b : Bool). cond b (min (width (drop (suc (place_of x)) l)) 8) 0) (eq-eqb (holder_of x) h e)

  bits_is : get_or bits x 0 ≡ bits_for (attr_of l (place_of x))
  unfolding bits_in
  bits_is =
      ap (λ (t : List ℕ). get_or t x 0) B ∙ get_or-tab (bits_in l h) 0 256 x 0 lt ∙ ap (bits_in l h) (zero-add x)
      ∙ ap (λ (b : Bool). cond b (bits_for (attr_of l (place_of x))) 0) (eq-eqb (holder_of x) h e)

  -- values that agree in the field of an operand have the same part there
  part_same : Keeps (get_or shifts x 0) (get_or bits x 0) m → (v w : ℕ) → v < 256 → w < 256 → bit_and v m ≡ bit_and w m
      → part_of l (place_of x) v ≡ part_of l (place_of x) w
  unfolding part_of
  part_same K v w p q a = sym (cut v p) ∙ K.field v w p q a ∙ cut w q
    where
      cut : (v : ℕ) → v < 256 → v / 2 ^ get_or shifts x 0 % 2 ^ get_or bits x 0 ≡ part_of l (place_of x) v
      cut v p =
          ap (λ (z : ℕ). v / 2 ^ z % 2 ^ get_or bits x 0) shift_is ∙ ap (λ (z : ℕ). z % 2 ^ get_or bits x 0) (byte_high v (width (drop (suc (place_of x)) l)) (omega arith))
          ∙ ap (λ (z : ℕ). v / 2 ^ width (drop (suc (place_of x)) l) % 2 ^ z) bits_is

-- a formula whose comparisons say the same says the same
module _ (c : Lists) (nodes : List ℕ) (g h : Holders)
    (leaf : (k : ℕ) → k < length nodes → 5 ≤ op_of (get_or nodes k 0) → leaf_of c nodes g k ≡ leaf_of c nodes h k) where
  answer-same : (m k : ℕ) → k < m → k < length nodes → answer c nodes g k ≡ answer c nodes h k
  answer-same zero k q l = absurd (omega arith)
  answer-same (suc m) k q l =
      let u = first_of (get_or nodes k 0) in
      let v = second_of (get_or nodes k 0) in
      answer-is c nodes g k
      ∙ joined_same (op_of (get_or nodes k 0)) _ _ _ _ _ _
      (λ a b. earlier-same c nodes g h k u (λ p. answer-same m u (omega arith) (omega arith)))
      (λ a b. earlier-same c nodes g h k v (λ p. answer-same m v (omega arith) (omega arith)))
      (λ a. leaf k l a)
      ∙ sym (answer-is c nodes h k)

  holds_same : holds c g nodes ≡ holds c h nodes
  holds_same = go (length nodes) refl
    where
      go : (n : ℕ) → length nodes ≡ n → holds c g nodes ≡ holds c h nodes
      go zero e = holds-none c nodes g e ∙ sym (holds-none c nodes h e)
      go (suc n) e = answer-last c nodes g n e ∙ answer-same (suc n) n (omega arith) (omega arith) ∙ sym (answer-last c nodes h n e)

module _ (c : Lists) (all : List ℕ) (f n h m : ℕ) (shifts bits : List ℕ) (S : shifts ≡ tab (shift_in (of_holder c h) h) 0 256)
    (B : bits ≡ tab (bits_in (of_holder c h) h) 0 256) (K : (k : ℕ) → k < n → KeepsNode shifts bits (get_or all (64 * f + k) 0) m) where
  module _ (v w : ℕ) (p : v < 256) (q : w < 256) (a : bit_and v m ≡ bit_and w m) (o : ℕ → ℕ) where
    abbrev with : ℕ → ℕ → ℕ
    with z i = cond (eqb i h) z (o i)

    operand_same : (x : ℕ) → x < 256 → Keeps (get_or shifts x 0) (get_or bits x 0) m → operand c (holders_of (with v)) x ≡ operand c (holders_of (with w)) x
    operand_same x lt k = go (ℕ_discrete (holder_of x) h)
      where
        own : (z : ℕ) → holder_of x ≡ h → holder_of x < 5 → held_by (holders_of (with z)) (holder_of x) ≡ z
        own z e l = held_of (with z) (holder_of x) l ∙ ap (λ (b : Bool). cond b z (o (holder_of x))) (eq-eqb (holder_of x) h e)

        go : Dec (holder_of x ≡ h) → operand c (holders_of (with v)) x ≡ operand c (holders_of (with w)) x
        go (yes e) =
            operand-part c (holders_of (with v)) (holders_of (with w)) x
            (λ l. ap (part_of (of_holder c (holder_of x)) (place_of x)) (own v e l)
            ∙ ap (λ (i : ℕ). part_of (of_holder c i) (place_of x) v) e
            ∙ part_same (of_holder c h) h x m shifts bits S B lt e k v w p q a
            ∙ ap (λ (i : ℕ). part_of (of_holder c i) (place_of x) w) (sym e)
            ∙ ap (part_of (of_holder c (holder_of x)) (place_of x)) (sym (own w e l)))
        go (no e) =
            operand-of c (with v) (with w) x
            (ap (λ (b : Bool). cond b v (o (holder_of x))) (ne_eqb (holder_of x) h e) ∙ sym (ap (λ (b : Bool). cond b w (o (holder_of x))) (ne_eqb (holder_of x) h e)))

    leaf-same : (k : ℕ) → k < length (nodes_of all f n) → 5 ≤ op_of (get_or (nodes_of all f n) k 0)
        → leaf_of c (nodes_of all f n) (holders_of (with v)) k ≡ leaf_of c (nodes_of all f n) (holders_of (with w)) k
    unfolding leaf_of first_of second_of
    leaf-same k l g =
        let d : k < n = omega (arith, nodes-length all f n) in
        let N : KeepsNode shifts bits (get_or (nodes_of all f n) k 0) m = subst (λ (y : ℕ). KeepsNode shifts bits y m) (sym (nodes-at all f n k d)) (K k d) in
        let y = get_or (nodes_of all f n) k 0 in
        compared_same c _ _ (op_of y) (first_of y) (second_of y) (operand_same (first_of y) (omega arith) (N.first g)) (operand_same (second_of y) (omega arith) (N.second g))

  -- the bits of the operands of all comparisons are all that the formula reads of the holder's value
  mask-same : (v w : ℕ) → v < 256 → w < 256 → bit_and v m ≡ bit_and w m → Same c (nodes_of all f n) h v w
  mask-same v w p q a o = holds_same c (nodes_of all f n) _ _ (leaf-same v w p q a o)

  pub one-by-mask : (among r : List ℕ) → OneOfEachIn m among r → OneOfEach c (nodes_of all f n) h among r
  one-by-mask among r O =
      record {
        inside = O.inside;
        later = λ w l t. let a = O.later w l t in (a.0, a.1, a.2, a.3, mask-same a.0 w a.1 l a.4);
      }
