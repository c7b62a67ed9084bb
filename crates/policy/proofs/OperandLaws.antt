-- What the operands of a node name decides whether it may stand there, where its operator compares. In order: operands as they are named, tests of what is
-- named, nodes that compare.
use mathlib.Core.Path.{◌≡◌, refl, ap, ◌∙◌}
use mathlib.Core.Bool.{Bool, true, false, not, ◌&&◌, cond}
use Prim.Native.Nat.{ℕ, ◌≤◌, ◌<◌}
use native.Mathlib.Omega.{arith}
use Rattle.std.proofs.lemmas.Bool.{eqb-true}
use borrow.Author.Tests.{le-leb, lt-leb, eq-eqb, ne_eqb}
use lib.Dec.{ltb, leb, eqb}
use Rattle.std.proofs.lemmas.Bool.Decides.{nat_tests}
use Rattle.std.proofs.Common.{Option, Some, None, Result, Ok, Err}
use Rattle.refusal.specs.declared.Refusal.{Refusal}
use Rattle.std.proofs.Math.Bool.{and-false}
use Rattle.policy.specs.Policy.{Lists}
use Rattle.policy.specs.Nodes.{op_of, first_of, second_of, holder_of, place_of, may_use, of_holder, named, names, atomic, node_ok, same_list, lists_agree}
use Rattle.policy.specs.Operators.{number_of_comparison}
use Rattle.policy.specs.declared.operators.Comparison.{Comparison}
use Rattle.policy.specs.Operands.{operand_of, is_set, list_of, share_list, takes_operands, judged_operands}
use Rattle.policy.specs.Rules.{attr_at, attrs_of}
use Rattle.policy.specs.declared.Class.{Class}
use Rattle.policy.specs.declared.nodes.Operand.{Operand}
use Rattle.policy.proofs.NodeLaws.{cond_same, names-barred, names-past, names-place, list-place, barred-constant, node-few, agree-others, agree-compared}

module _ (c : Lists) (f x : ℕ) where
  pub operand-constant : holder_of x ≡ 5 → operand_of c f x ≡ cond (ltb (place_of x) 16) (Some Operand.Constant) None
  unfolding operand_of
  operand-constant e = simp (eq-eqb _ _ e)

  operand-attribute :
      (holder_of x ≡ 5 → ⊥) →
      operand_of c f x ≡ cond (names c f 0 x) (Some (Operand.Atomic (named c x).list)) (cond (names c f 1 x) (Some (Operand.Set (named c x).list)) None)
  unfolding operand_of
  operand-attribute n = simp (ne_eqb _ _ n)

  pub operand-barred : (holder_of x ≡ 5 → ⊥) → may_use f (holder_of x) ≡ false → operand_of c f x ≡ None
  operand-barred n e = operand-attribute n ∙ simp (names-barred c f 0 x e, names-barred c f 1 x e)

  module _ (r : Class) (l : attrs_of r ≡ of_holder c (holder_of x)) (n : holder_of x ≡ 5 → ⊥) (e : may_use f (holder_of x) ≡ true) where
    pub operand-past : r.count ≤ place_of x → operand_of c f x ≡ None
    operand-past h = operand-attribute n ∙ simp (names-past c f 0 x r l e h, names-past c f 1 x r l e h)

    pub operand-place :
        place_of x < r.count →
        operand_of c f x
        ≡ cond (eqb (attr_at r (place_of x)).kind 0) (Some (Operand.Atomic (attr_at r (place_of x)).list))
        (cond (eqb (attr_at r (place_of x)).kind 1) (Some (Operand.Set (attr_at r (place_of x)).list)) None)
    operand-place h = operand-attribute n ∙ simp (names-place c f 0 x r l e h, names-place c f 1 x r l e h, list-place c x r l h)

-- whether an operand names an atomic value
abbrev is_value_at : Option Operand → Bool
is_value_at None = false
is_value_at (Some p) = not (is_set p)

-- whether it names a set
abbrev is_set_at : Option Operand → Bool
is_set_at None = false
is_set_at (Some p) = is_set p

-- the answer by whether a node may stand there and whether its lists agree
abbrev pub answer : Bool → Bool → Result (Unit {0}) Refusal
answer ok agree = cond ok (cond agree (Ok (tt {0})) (Err Refusal.Lists)) (Err Refusal.Node)

module _ (c : Lists) (f x : ℕ) where
  -- an attribute is of one kind
  one_kind : names c f 0 x ≡ true → names c f 1 x ≡ false
  unfolding names
  one_kind e = grind (arith, nat_tests)

  value-at : atomic c f x ≡ is_value_at (operand_of c f x)
  unfolding atomic operand_of
  value-at = go (eqb (holder_of x) 5) (ltb (place_of x) 16) (names c f 0 x) (names c f 1 x)
    where
      go : (h s n m : Bool) →
          cond h s n ≡ is_value_at (cond h (cond s (Some Operand.Constant) None) (cond n (Some (Operand.Atomic (named c x).list)) (cond m (Some (Operand.Set (named c x).list)) None)))
      go true true n m = refl
      go true false n m = refl
      go false s true m = refl
      go false s false true = refl
      go false s false false = refl

  set-at : names c f 1 x ≡ is_set_at (operand_of c f x)
  unfolding operand_of
  set-at = go (eqb (holder_of x) 5) (ltb (place_of x) 16) (names c f 0 x) (names c f 1 x) (λ e. names-barred c f 1 x (barred-constant c f x (eqb-true _ _ e))) one_kind
    where
      go : (h s n m : Bool) → (h ≡ true → m ≡ false) → (n ≡ true → m ≡ false) →
          m ≡ is_set_at (cond h (cond s (Some Operand.Constant) None) (cond n (Some (Operand.Atomic (named c x).list)) (cond m (Some (Operand.Set (named c x).list)) None)))
      go true true n m h e = h refl
      go true false n m h e = h refl
      go false s true m h e = e refl
      go false s false true h e = refl
      go false s false false h e = refl

  list-at : (p : Operand) → operand_of c f x ≡ Some p → list_of p ≡ cond (eqb (holder_of x) 5) None (Some (named c x).list)
  unfolding operand_of
  list-at p e = go (eqb (holder_of x) 5) (ltb (place_of x) 16) (names c f 0 x) (names c f 1 x) e
    where
      go : (h s n m : Bool) →
          cond h (cond s (Some Operand.Constant) None) (cond n (Some (Operand.Atomic (named c x).list)) (cond m (Some (Operand.Set (named c x).list)) None)) ≡ Some p →
          list_of p ≡ cond h None (Some (named c x).list)
      go true true n m e = ap list_of (let q : p ≡ Operand.Constant = cc in q)
      go true false n m e = absurd (cc)
      go false s true m e = ap list_of (let q : p ≡ Operand.Atomic (named c x).list = cc in q)
      go false s false true e = ap list_of (let q : p ≡ Operand.Set (named c x).list = cc in q)
      go false s false false e = absurd (cc)

-- the test of two operands, where they may name nothing
abbrev takes_at : ℕ → Option Operand → Option Operand → Bool
takes_at op o q =
    cond (leb op 4) false
    (cond (leb op 7) (is_value_at o && is_value_at q) (cond (eqb op 8) (is_value_at o && is_set_at q) (cond (leb op 10) (is_set_at o && is_set_at q) false)))

-- the operators that compare are those from 5 on
pub comparison-number : (k : Comparison) → 4 < number_of_comparison k
comparison-number Comparison.Equal = omega arith
comparison-number Comparison.Less = omega arith
comparison-number Comparison.AtMost = omega arith
comparison-number Comparison.Member = omega arith
comparison-number Comparison.Subset = omega arith
comparison-number Comparison.ProperSubset = omega arith

-- a number past 10 is no operator
takes-few : (op : ℕ) (p q : Operand) → takes_operands op p q ≡ true → op ≤ 10
takes-few op p q t = grind (arith, nat_tests)

module _ (c : Lists) (f i x : ℕ) (g : 4 < op_of x) where
  ok-at : node_ok c f i x ≡ takes_at (op_of x) (operand_of c f (first_of x)) (operand_of c f (second_of x))
  unfolding node_ok
  ok-at =
      simp (lt-leb (op_of x) 1 (omega arith), ne_eqb (op_of x) 2 (λ e. omega arith), lt-leb (op_of x) 4 g, ← value-at c f (first_of x), ← value-at c f (second_of x), ← set-at c f (first_of x), ← set-at c f (second_of x))

  -- a node that compares is judged by what its operands name
  pub answer-operands :
      answer (node_ok c f i x) (lists_agree c x)
      ≡ judged_operands (op_of x) (operand_of c f (first_of x)) (operand_of c f (second_of x))
  unfolding same_list
  answer-operands =
      go (operand_of c f (first_of x)) (operand_of c f (second_of x)) ok-at (λ p. list-at c f (first_of x) p) (λ q. list-at c f (second_of x) q)
    where
      fit : (p q : Operand) →
          list_of p ≡ cond (eqb (holder_of (first_of x)) 5) None (Some (named c (first_of x)).list) →
          list_of q ≡ cond (eqb (holder_of (second_of x)) 5) None (Some (named c (second_of x)).list) →
          same_list c (first_of x) (second_of x) ≡ share_list p q
      fit (Operand.Atomic n) (Operand.Atomic m) u v = grind (arith, nat_tests)
      fit (Operand.Atomic n) (Operand.Set m) u v = grind (arith, nat_tests)
      fit (Operand.Atomic n) Operand.Constant u v = grind (arith, nat_tests)
      fit (Operand.Set n) (Operand.Atomic m) u v = grind (arith, nat_tests)
      fit (Operand.Set n) (Operand.Set m) u v = grind (arith, nat_tests)
      fit (Operand.Set n) Operand.Constant u v = grind (arith, nat_tests)
      fit Operand.Constant q u v = grind (arith, nat_tests)

      by : (b : Bool) (p q : Operand) → node_ok c f i x ≡ b → (b ≡ true → lists_agree c x ≡ share_list p q) →
          answer (node_ok c f i x) (lists_agree c x) ≡ cond b (cond (share_list p q) (Ok (tt {0})) (Err Refusal.Lists)) (Err Refusal.Node)
      by true p q n h = rw (n, h refl) refl
      by false p q n h = rw n refl

      go : (o r : Option Operand) → node_ok c f i x ≡ takes_at (op_of x) o r →
          ((p : Operand) → o ≡ Some p → list_of p ≡ cond (eqb (holder_of (first_of x)) 5) None (Some (named c (first_of x)).list)) →
          ((q : Operand) → r ≡ Some q → list_of q ≡ cond (eqb (holder_of (second_of x)) 5) None (Some (named c (second_of x)).list)) →
          answer (node_ok c f i x) (lists_agree c x) ≡ judged_operands (op_of x) o r
      go None r e u v = rw e (simp cond_same)
      go (Some p) None e u v = rw e (simp (and-false, cond_same))
      go (Some p) (Some q) e u v =
          by (takes_operands (op_of x) p q) p q e (λ t. agree-compared c x g (takes-few _ p q t) ∙ fit p q (u p refl) (v q refl))

  pub answer-unknown : 10 < op_of x → answer (node_ok c f i x) (lists_agree c x) ≡ Err Refusal.Node
  unfolding node_ok
  answer-unknown h = let none : node_ok c f i x ≡ false = grind (arith, nat_tests) in rw none refl

-- nodes that join what earlier ones say
module _ (c : Lists) (f i x : ℕ) where
  answer-few :
      op_of x ≤ 4 →
      answer (node_ok c f i x) (lists_agree c x)
      ≡ cond
      (cond (leb (op_of x) 1) (eqb (first_of x) 0 && eqb (second_of x) 0)
      (cond (eqb (op_of x) 2) (ltb (first_of x) i && eqb (second_of x) 0) (ltb (first_of x) i && ltb (second_of x) i)))
      (Ok (tt {0})) (Err Refusal.Node)
  answer-few g = rw (agree-others c x (λ a b. omega arith), node-few c f i x g) refl

  pub answer-constant : op_of x ≤ 1 → answer (node_ok c f i x) (lists_agree c x) ≡ cond (eqb (first_of x) 0 && eqb (second_of x) 0) (Ok (tt {0})) (Err Refusal.Node)
  answer-constant g = answer-few (omega arith) ∙ simp (le-leb _ _ g)

  pub answer-not : op_of x ≡ 2 → answer (node_ok c f i x) (lists_agree c x) ≡ cond (ltb (first_of x) i && eqb (second_of x) 0) (Ok (tt {0})) (Err Refusal.Node)
  answer-not g = answer-few (omega arith) ∙ simp (lt-leb (op_of x) 1 (omega arith), eq-eqb _ _ g)

  pub answer-pair : 2 < op_of x → op_of x ≤ 4 → answer (node_ok c f i x) (lists_agree c x) ≡ cond (ltb (first_of x) i && ltb (second_of x) i) (Ok (tt {0})) (Err Refusal.Node)
  answer-pair g h = answer-few h ∙ simp (lt-leb (op_of x) 1 (omega arith), ne_eqb (op_of x) 2 (λ e. omega arith))
