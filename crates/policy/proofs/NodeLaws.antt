-- Laws of nodes: what each definition comes to, case by case. In order: tests, operands that name an attribute, a node by its operator, operands of the
-- same list.
use mathlib.Core.Path.{◌≡◌, refl, sym, ap, ◌∙◌}
use mathlib.Core.Bool.{Bool, true, false, ◌&&◌, ◌||◌, cond}
use mathlib.Core.Logic.{◌⊎◌}
use mathlib.Core.List.{List}
use Prim.Native.Nat.{ℕ, ◌≤◌, ◌<◌}
use native.Mathlib.Decide.{dec_le}
use native.Mathlib.Omega.{arith}
use borrow.Author.Tests.{le-leb, lt-leb, lt-ltb, le-ltb, eq-eqb, ne_eqb}
use lib.Dec.{ltb, leb, eqb}
use lib.ListN.{length, get_or}
use Rattle.std.proofs.Math.Bool.{or-true}
use Rattle.std.proofs.lemmas.Bool.{and_parts, or_cases, both_ways}
use Rattle.format.specs.Format.{within}
use Rattle.policy.specs.Policy.{Attr, no_attr, Lists}
use Rattle.policy.specs.Nodes.{op_of, first_of, second_of, holder_of, place_of, may_use, of_holder, named, names, atomic, node_ok, same_list, lists_agree}
use Rattle.policy.specs.Rules.{attr_at, attrs_of}
use Rattle.policy.specs.declared.Class.{Class}
use Rattle.policy.proofs.Laws.{attrs-length, attrs-at}

pub cond_same : {A : Type 0} (b : Bool) (x : A) → cond b x x ≡ x
cond_same true x = refl
cond_same false x = refl

-- the names of the library's laws that other crates import from here
pub and_both : (p q : Bool) → p && q ≡ true → (p ≡ true) × (q ≡ true)
and_both p q e = and_parts p q e

pub or-either : (p q : Bool) → p || q ≡ true → (p ≡ true) ⊎ (q ≡ true)
or-either p q e = or_cases p q e

pub true-false : {b : Bool} {C : Type 0} → b ≡ true → b ≡ false → C
true-false f g = absurd (both_ways _ g f)

module _ (c : Lists) (f kind x : ℕ) where
  pub names-barred : may_use f (holder_of x) ≡ false → names c f kind x ≡ false
  unfolding names
  names-barred e = simp e

  module _ (r : Class) (l : attrs_of r ≡ of_holder c (holder_of x)) (e : may_use f (holder_of x) ≡ true) where
    pub names-past : r.count ≤ place_of x → names c f kind x ≡ false
    unfolding names
    names-past h = simp (e, ← l, le-ltb (place_of x) (length (attrs_of r)) (omega (arith, attrs-length r)))

    pub names-place : place_of x < r.count → names c f kind x ≡ eqb (attr_at r (place_of x)).kind kind
    unfolding names named
    names-place h =
        simp (e, ← l, lt-ltb (place_of x) (length (attrs_of r)) (omega (arith, attrs-length r)), attrs-at r (place_of x) no_attr h)

module _ (c : Lists) (x : ℕ) (r : Class) (l : attrs_of r ≡ of_holder c (holder_of x)) where
  pub list-place : place_of x < r.count → (named c x).list ≡ (attr_at r (place_of x)).list
  unfolding named
  list-place h = ap (λ (a : Attr). a.list) (ap (λ (m : List Attr). get_or m (place_of x) no_attr) (sym l) ∙ attrs-at r (place_of x) no_attr h)

module _ (c : Lists) (f x : ℕ) where
  pub barred-constant : holder_of x ≡ 5 → may_use f (holder_of x) ≡ false
  unfolding may_use
  barred-constant e = simp (e, cond_same)

module _ (c : Lists) (f i x : ℕ) where
  pub node-compares : 4 < op_of x → op_of x ≤ 7 → node_ok c f i x ≡ atomic c f (first_of x) && atomic c f (second_of x)
  unfolding node_ok
  node-compares g h = simp (lt-leb (op_of x) 1 (omega arith), ne_eqb (op_of x) 2 (λ e. omega arith), lt-leb (op_of x) 4 g, le-leb (op_of x) 7 h)

  node-late :
      7 < op_of x →
      node_ok c f i x
      ≡ cond (eqb (op_of x) 8) (atomic c f (first_of x) && names c f 1 (second_of x))
      (cond (leb (op_of x) 10) (names c f 1 (first_of x) && names c f 1 (second_of x)) false)
  unfolding node_ok
  node-late h =
      simp (lt-leb (op_of x) 1 (omega arith), ne_eqb (op_of x) 2 (λ e. omega arith), lt-leb (op_of x) 4 (omega arith), lt-leb (op_of x) 7 h)

  pub node-member : op_of x ≡ 8 → node_ok c f i x ≡ atomic c f (first_of x) && names c f 1 (second_of x)
  node-member h = node-late (omega arith) ∙ simp (eq-eqb (op_of x) 8 h)

  pub node-sets : 8 < op_of x → op_of x ≤ 10 → node_ok c f i x ≡ names c f 1 (first_of x) && names c f 1 (second_of x)
  node-sets g h = node-late (omega arith) ∙ simp (ne_eqb (op_of x) 8 (λ e. omega arith), le-leb (op_of x) 10 h)

  -- operators whose operands are nodes, or nothing
  pub node-few :
      op_of x ≤ 4 →
      node_ok c f i x
      ≡ cond (leb (op_of x) 1) (eqb (first_of x) 0 && eqb (second_of x) 0)
      (cond (eqb (op_of x) 2) (ltb (first_of x) i && eqb (second_of x) 0) (ltb (first_of x) i && ltb (second_of x) i))
  unfolding node_ok
  node-few h = simp (le-leb _ _ h)

module _ (c : Lists) (a b : ℕ) where
  pub same_lists : (holder_of a ≡ 5 → ⊥) → (holder_of b ≡ 5 → ⊥) → same_list c a b ≡ eqb (named c a).list (named c b).list
  unfolding same_list
  same_lists m n = simp (ne_eqb _ _ m, ne_eqb _ _ n)

module _ (c : Lists) (x : ℕ) where
  pub agree-compared : 5 ≤ op_of x → op_of x ≤ 10 → lists_agree c x ≡ same_list c (first_of x) (second_of x)
  unfolding lists_agree within
  agree-compared g h = simp (le-leb _ _ g, lt-ltb (op_of x) 11 (omega arith))

  pub agree-others : (5 ≤ op_of x → op_of x ≤ 10 → ⊥) → lists_agree c x ≡ true
  unfolding lists_agree within
  agree-others n = go (dec_le 5 (op_of x))
    where
      go : Dec (5 ≤ op_of x) → lists_agree c x ≡ true
      go (yes h) = simp (le-leb _ _ h, le-ltb (op_of x) 11 (omega (arith, n h)))
      go (no h) = simp (lt-leb 5 (op_of x) (omega arith))

  -- operands of equal lists may stand in any node
  pub agree-equal : (named c (first_of x)).list ≡ (named c (second_of x)).list → lists_agree c x ≡ true
  unfolding lists_agree same_list
  agree-equal e = simp (eq-eqb _ _ e, or-true, cond_same)
