-- Laws of what nodes say. In order: the operators that join, a node by the tables of its operands, what it looks at of the nodes before it, and the answers of the
-- first nodes in an array: none, one more, all.
use mathlib.Core.Path.{◌≡◌, refl, sym, ap, ◌∙◌}
use mathlib.Core.Bool.{Bool, false}
use mathlib.Core.List.{List, [], ◌∷◌, ◌++◌}
use Prim.Native.Nat.{ℕ, zero, suc, ◌+◌, ◌-◌, ◌*◌, ◌≤◌, ◌<◌}
use native.Mathlib.Decide.{dec_lt}
use native.Mathlib.Numerals.{add-one}
use native.Mathlib.Omega.{arith}
use borrow.Author.Tests.{ne_eqb}
use lib.ListN.{length, get_or, set, replicate, length-append, get_or-eq_default, get_or-append}
use lib.Seq.{get_or-set_same, get_or-set_other, get_or_at}
use Rattle.bits.specs.Packed.{tab}
use Rattle.bits.proofs.Packed.{get_or-tab}
use Rattle.policy.specs.Policy.{Lists}
use Rattle.policy.specs.Nodes.{op_of, first_of, second_of}
use Rattle.policy.specs.Rules.{nodes_of}
use Rattle.formulas.specs.Value.{operand, size_of_operand}
use Rattle.formulas.specs.Meaning.{compared, node_says, said, holds}
use Rattle.formulas.specs.Parts.{compared_by, joined_by, joined, compared_over, Said}
use Rattle.formulas.specs.declared.Holders.{Holders}

first-lt : (x : ℕ) → first_of x < 256
unfolding first_of
first-lt x = omega arith

second_lt : (x : ℕ) → second_of x < 256
unfolding second_of
second_lt x = omega arith

-- element x of a table of all operands
at-operand : (f : ℕ → ℕ) (t : List ℕ) (x : ℕ) → t ≡ tab f 0 256 → x < 256 → get_or t x 0 ≡ f x
at-operand f t x e h = ap (λ (l : List ℕ). get_or l x 0) e ∙ get_or-tab f 0 256 x 0 h ∙ ap f (omega arith)

-- which operators join answers
joined-five : (op : ℕ) (x y p q : Bool) → op < 5 → joined_by op x y p ≡ joined_by op x y q
unfolding joined_by
joined-five zero x y p q h = refl
joined-five (suc zero) x y p q h = refl
joined-five (suc (suc zero)) x y p q h = refl
joined-five (suc (suc (suc zero))) x y p q h = refl
joined-five (suc (suc (suc (suc zero)))) x y p q h = refl
joined-five (suc (suc (suc (suc (suc op))))) x y p q h = absurd (omega arith)

module _ (before : List Bool) (node : ℕ) where
  pub joined-below : (p q : Bool) → op_of node < 5 → joined before node p ≡ joined before node q
  unfolding joined
  joined-below p q h = joined-five (op_of node) _ _ p q h

  pub joined-above : (p : Bool) → 5 ≤ op_of node → joined before node p ≡ p
  unfolding joined joined_by
  joined-above p h =
      simp (
        ne_eqb (op_of node) 0 (λ e. omega arith),
        ne_eqb (op_of node) 1 (λ e. omega arith),
        ne_eqb (op_of node) 2 (λ e. omega arith),
        ne_eqb (op_of node) 3 (λ e. omega arith),
        ne_eqb (op_of node) 4 (λ e. omega arith),
      )

module _ (c : Lists) (v : Holders) where
  -- a node says what it joins, or compares
  pub says-joined : (before : List Bool) (node : ℕ) → joined before node (compared c v (op_of node) (first_of node) (second_of node)) ≡ node_says c v before node
  unfolding node_says joined joined_by
  says-joined before node = refl

  -- over the right tables a comparison says what it says of the values
  over-tables : (values sizes : List ℕ) (node : ℕ) → values ≡ tab (operand c v) 0 256 → sizes ≡ tab (size_of_operand c) 0 256 →
      compared_over values sizes node ≡ compared c v (op_of node) (first_of node) (second_of node)
  unfolding compared_over compared compared_by
  over-tables values sizes node e d =
      simp (
        at-operand (operand c v) values (first_of node) e (first-lt node),
        at-operand (operand c v) values (second_of node) e (second_lt node),
        at-operand (size_of_operand c) sizes (first_of node) d (first-lt node),
        at-operand (size_of_operand c) sizes (second_of node) d (second_lt node),
      )

  pub says-over : (values sizes : List ℕ) (before : List Bool) (node : ℕ) → values ≡ tab (operand c v) 0 256 → sizes ≡ tab (size_of_operand c) 0 256 →
      joined before node (compared_over values sizes node) ≡ node_says c v before node
  says-over values sizes before node e d = ap (joined before node) (over-tables values sizes node e d) ∙ says-joined before node

  -- a node that joins looks at no operand
  pub says_plain : (before : List Bool) (node : ℕ) → op_of node < 5 → joined before node false ≡ node_says c v before node
  says_plain before node h = joined-below before node false (compared c v (op_of node) (first_of node) (second_of node)) h ∙ says-joined before node

  -- a node looks at the answers before it one by one
  says-ext : (l m : List Bool) (node : ℕ) → ((j : ℕ) → get_or l j false ≡ get_or m j false) → node_says c v l node ≡ node_says c v m node
  unfolding node_says
  says-ext l m node h = simp (h (first_of node), h (second_of node))

  module _ (nodes : List ℕ) where
    said_more : (n : ℕ) → said c v nodes (n + 1) ≡ said c v nodes n ++ node_says c v (said c v nodes n) (get_or nodes n 0) ∷ []
    unfolding said
    said_more n = rw add-one

    said-length : (n : ℕ) → length (said c v nodes n) ≡ n
    unfolding said
    said-length zero = refl
    said-length (suc n) = length-append (said c v nodes n) _ ∙ omega (arith, said-length n)

    pub said-start : Said c v nodes 0 (replicate 256 false) false
    unfolding said
    said-start = record { answers = falses 256; newest = refl }
      where
        falses : (n j : ℕ) → get_or (replicate n false) j false ≡ false
        falses zero j = refl
        falses (suc n) zero = refl
        falses (suc n) (suc j) = falses n j

    pub said-next : (i : ℕ) (before : List Bool) (last r : Bool) → Said c v nodes i before last → i < length before → r ≡ node_says c v before (get_or nodes i 0) →
        Said c v nodes (i + 1) (set before i r) r
    said-next i before last r s h e =
        record { answers = λ j. go j (dec_lt j i) (dec_lt i j); newest = new ∙ ap (λ (k : ℕ). get_or (said c v nodes (i + 1)) k false) (omega arith) }
      where
        is : r ≡ node_says c v (said c v nodes i) (get_or nodes i 0)
        is = e ∙ says-ext before (said c v nodes i) (get_or nodes i 0) s.answers

        new : r ≡ get_or (said c v nodes (i + 1)) i false
        new = is ∙ sym (ap (λ (m : List Bool). get_or m i false) (said_more i) ∙ get_or_at (said c v nodes i) (node_says c v (said c v nodes i) (get_or nodes i 0)) [] false i (said-length i))

        go : (j : ℕ) → Dec (j < i) → Dec (i < j) → get_or (set before i r) j false ≡ get_or (said c v nodes (i + 1)) j false
        go j (yes k) m =
            get_or-set_other before i j r false (λ z. omega arith) ∙ s.answers j
            ∙ sym (ap (λ (m : List Bool). get_or m j false) (said_more i) ∙ get_or-append (said c v nodes i) (node_says c v (said c v nodes i) (get_or nodes i 0) ∷ []) false j (omega (arith, said-length i)))
        go j (no k) (yes m) =
            get_or-set_other before i j r false (λ z. omega arith) ∙ s.answers j
            ∙ get_or-eq_default (said c v nodes i) false (omega (arith, said-length i))
            ∙ sym (get_or-eq_default (said c v nodes (i + 1)) false (omega (arith, said-length (i + 1))))
        go j (no k) (no m) =
            let z : j ≡ i = omega arith in
            ap (λ (k : ℕ). get_or (set before i r) k false) z ∙ get_or-set_same before i r false h ∙ new ∙ ap (λ (k : ℕ). get_or (said c v nodes (i + 1)) k false) (sym z)

    pub said_all : (n : ℕ) (before : List Bool) (last : Bool) → Said c v nodes n before last → length nodes ≡ n → last ≡ holds c v nodes
    unfolding holds
    said_all n before last s e = s.newest ∙ ap (λ (k : ℕ). get_or (said c v nodes k) (k - 1) false) (sym e)

pub nodes-at : (l : List ℕ) (f n i : ℕ) → i < n → get_or (nodes_of l f n) i 0 ≡ get_or l (64 * f + i) 0
unfolding nodes_of
nodes-at l f n i h = get_or-tab _ 0 n i 0 h ∙ ap (λ (k : ℕ). get_or l (64 * f + k) 0) (omega arith)
