-- Laws of operands by lane and row. In order: an operand by its holder; what the two holders have; each kind of operand; comparisons.
use mathlib.Core.Path.{◌≡◌, refl, sym, ap, ◌∙◌}
use mathlib.Core.Bool.{Bool, cond}
use mathlib.Core.List.{List}
use Prim.Native.Nat.{ℕ, zero, suc, ◌/◌, ◌%◌, ◌^◌, ◌≤◌, ◌<◌, min}
use native.Mathlib.Nat.{zero-div, mod-eq_of_lt}
use native.Mathlib.Omega.{arith}
use borrow.Author.Tests.{lt-ltb, le-ltb, eq-eqb, ne_eqb}
use lib.Dec.{eqb}
use lib.ListN.{drop}
use lib.Pow.{pow_pos}
use Rattle.policy.specs.Policy.{Attr, Lists, bits_for, width}
use Rattle.policy.specs.Nodes.{op_of, first_of, second_of, holder_of, place_of, of_holder}
use Rattle.formulas.specs.Value.{attr_of, part_of, held_by, operand, size_of_operand}
use Rattle.formulas.specs.Meaning.{compared}
use Rattle.formulas.specs.Parts.{compared_by}
use Rattle.formulas.specs.declared.Holders.{Holders}
use Rattle.planes.specs.Word.{compared_in}
use Rattle.planes.proofs.Values.{field_cut, field-number}
use Rattle.planes.proofs.Numbers.{number-constant}
use Rattle.dependence.specs.Answers.{holders_of}
use Rattle.sides.specs.Leaf.{two, leaf}
use Rattle.sides.specs.Side.{field_of, operand_at, size_of, Tells}
use Rattle.sides.specs.declared.Side.{Side}
use Rattle.sides.specs.declared.Side.TheVariants.{Row, Lane, Constant}

held_of : (f : ℕ → ℕ) (h : ℕ) → h < 5 → held_by (holders_of f) h ≡ f h
unfolding held_by holders_of
held_of f zero l = refl
held_of f (suc zero) l = refl
held_of f (suc (suc zero)) l = refl
held_of f (suc (suc (suc zero))) l = refl
held_of f (suc (suc (suc (suc zero)))) l = refl
held_of f (suc (suc (suc (suc (suc h))))) l = absurd (omega arith)

module _ (c : Lists) (x : ℕ) where
  module _ (g : Holders) where
    operand-part : holder_of x < 5 → operand c g x ≡ part_of (of_holder c (holder_of x)) (place_of x) (held_by g (holder_of x))
    unfolding operand
    operand-part h = simp (lt-ltb (holder_of x) 5 h)

    operand-constant : holder_of x ≡ 5 → operand c g x ≡ place_of x
    unfolding operand
    operand-constant h = simp (le-ltb (holder_of x) 5 (omega arith), eq-eqb (holder_of x) 5 h)

    operand-none : 5 < holder_of x → operand c g x ≡ 0
    unfolding operand
    operand-none h = simp (le-ltb (holder_of x) 5 (omega arith), ne_eqb (holder_of x) 5 (λ e. omega arith))

  size-there : holder_of x < 5 → size_of_operand c x ≡ (attr_of (of_holder c (holder_of x)) (place_of x)).size
  unfolding size_of_operand
  size-there h = simp (lt-ltb (holder_of x) 5 h)

  size_none : 5 ≤ holder_of x → size_of_operand c x ≡ 0
  unfolding size_of_operand
  size_none h = simp (le-ltb (holder_of x) 5 h)

module _ (c : Lists) (a b x : ℕ) where
  pub tells-constant : holder_of x ≡ 5 → Tells c a b x (Constant (place_of x) 0)
  unfolding operand_at size_of
  tells-constant h =
      record { number = λ v i p q. operand-constant c x _ h ∙ sym (number-constant (place_of x) 0 v); size = size_none c x (omega arith) }

  pub tells_none : 5 < holder_of x → Tells c a b x (Constant 0 0)
  unfolding operand_at size_of
  tells_none h =
      record { number = λ v i p q. operand-none c x _ h ∙ sym (number-constant 0 0 v); size = size_none c x (omega arith) }

  module _ (l : holder_of x < 5) where
    abbrev attrs : List Attr
    attrs = of_holder c (holder_of x)

    k : ℕ
    k = place_of x

    w : ℕ
    w = width (drop (suc k) attrs)

    n : ℕ
    n = bits_for (attr_of attrs k)

    of_two : (v i : ℕ) → operand c (holders_of (two a b v i)) x ≡ two a b v i (holder_of x) / 2 ^ w % 2 ^ n
    unfolding part_of w n k
    of_two v i =
        operand-part c x (holders_of (two a b v i)) l
        ∙ ap (part_of attrs (place_of x)) (held_of (two a b v i) (holder_of x) l)

    pub tells-lane : holder_of x ≡ a
        → Tells c a b x (Lane (field_of attrs (place_of x)))
    unfolding operand_at size_of field_of two w n k
    tells-lane e =
        record {
          number = λ v i p q.
              of_two v i ∙ ap (λ (t : Bool). cond t v (cond (eqb (holder_of x) b) i 0) / 2 ^ w % 2 ^ n) (eq-eqb (holder_of x) a e)
              ∙ sym (field-number v w n 0 (attr_of attrs k).size p refl);
          size = size-there c x l;
        }

    pub tells_row : (holder_of x ≡ a → ⊥) → holder_of x ≡ b
        → Tells c a b x (Row (field_of attrs (place_of x)))
    unfolding operand_at size_of field_of two w n k
    tells_row d e =
        record {
          number = λ v i p q.
              of_two v i ∙ rw (ne_eqb (holder_of x) a d, eq-eqb (holder_of x) b e) (sym (field_cut i w n q))
              ∙ sym (number-constant (i / 2 ^ min w 8 % 2 ^ n) (attr_of attrs k).size v);
          size = size-there c x l;
        }

    pub tells-zero : (holder_of x ≡ a → ⊥) → (holder_of x ≡ b → ⊥)
        → Tells c a b x (Constant 0 (field_of attrs (place_of x)).size)
    unfolding operand_at size_of field_of two k
    tells-zero d e =
        record {
          number = λ v i p q.
              of_two v i ∙ rw (ne_eqb (holder_of x) a d, ne_eqb (holder_of x) b e) (nothing w n)
              ∙ sym (number-constant 0 (attr_of attrs k).size v);
          size = size-there c x l;
        }
      where
        nothing : (w n : ℕ) → 0 / 2 ^ w % 2 ^ n ≡ 0
        nothing w n = ap (λ (z : ℕ). z % 2 ^ n) (zero-div (2 ^ w)) ∙ mod-eq_of_lt (pow_pos n)

-- an operand keeps the size of its list in all rows
pub size-at : (s : Side) (i : ℕ) → (operand_at s i).size ≡ size_of s
unfolding operand_at size_of
size-at (Row f) i = refl
size-at (Lane f) i = refl
size-at (Constant n z) i = refl

-- what the comparison of a node says, by its operands
pub leaf-is : (c : Lists) (a b node : ℕ) (x y : Side) → Tells c a b (first_of node) x → Tells c a b (second_of node) y → (i v : ℕ) → i < 256 → v < 256
    → compared_in (op_of node) (operand_at x i) (operand_at y i) v ≡ leaf c a b node i v
unfolding compared_in compared_by compared leaf
leaf-is c a b node x y X Y i v hi hv =
    sym (rw (X.number v i hv hi, Y.number v i hv hi, X.size, Y.size, size-at x i, size-at y i) refl)
