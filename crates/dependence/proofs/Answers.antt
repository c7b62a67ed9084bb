-- What each node of a formula says, as a function of the node. In order: operators that join; a node's answer by the answers before it; joins and
-- comparisons apart; the formula by its last node; nodes before it that say the same.
use mathlib.Core.Path.{◌≡◌, refl, sym, ap, ap₂, ◌∙◌}
use mathlib.Core.Bool.{Bool, false, not, ◌&&◌, ◌||◌, cond}
use mathlib.Core.List.{List, [], ◌∷◌}
use Prim.Native.Nat.{ℕ, zero, suc, ◌-◌, ◌≤◌, ◌<◌}
use native.Mathlib.Decide.{dec_lt, ℕ_discrete}
use native.Mathlib.Omega.{arith}
use borrow.Author.Tests.{lt-ltb, le-ltb, ne_eqb}
use lib.ListN.{length, get_or, length-append, get_or-eq_default, get_or-append}
use lib.Seq.{get_or_at}
use Rattle.policy.specs.Policy.{Lists}
use Rattle.policy.specs.Nodes.{op_of, first_of, second_of}
use Rattle.formulas.specs.Meaning.{compared, node_says, said, holds}
use Rattle.formulas.specs.Parts.{joined_by, joined}
use Rattle.formulas.specs.declared.Holders.{Holders}
use Rattle.formulas.proofs.Laws.{says-joined}
use Rattle.dependence.specs.Answers.{answer, earlier, leaf_of}

joined-high : (op : ℕ) (x y o : Bool) → 5 ≤ op → joined_by op x y o ≡ o
unfolding joined_by
joined-high op x y o l =
    simp (
      ne_eqb op 0 (λ e. omega arith),
      ne_eqb op 1 (λ e. omega arith),
      ne_eqb op 2 (λ e. omega arith),
      ne_eqb op 3 (λ e. omega arith),
      ne_eqb op 4 (λ e. omega arith),
    )

-- a node looks at its first operand from operator 2 on, at its second from 3 on, and at its operands' values from 5 on
pub joined_same : (op : ℕ) (x y o p q r : Bool) → (2 ≤ op → op < 5 → x ≡ p) → (3 ≤ op → op < 5 → y ≡ q) → (5 ≤ op → o ≡ r)
    → joined_by op x y o ≡ joined_by op p q r
unfolding joined_by
joined_same zero x y o p q r a b z = refl
joined_same (suc zero) x y o p q r a b z = refl
joined_same (suc (suc zero)) x y o p q r a b z = ap not (a (omega arith) (omega arith))
joined_same (suc (suc (suc zero))) x y o p q r a b z = ap₂ ◌&&◌ (a (omega arith) (omega arith)) (b (omega arith) (omega arith))
joined_same (suc (suc (suc (suc zero)))) x y o p q r a b z = ap₂ ◌||◌ (a (omega arith) (omega arith)) (b (omega arith) (omega arith))
joined_same (suc (suc (suc (suc (suc op))))) x y o p q r a b z =
    let n = suc (suc (suc (suc (suc op)))) in joined-high n x y o (omega arith) ∙ z (omega arith) ∙ sym (joined-high n p q r (omega arith))

module _ (c : Lists) (nodes : List ℕ) where
  module _ (h : Holders) where
    said-long : (n : ℕ) → length (said c h nodes n) ≡ n
    unfolding said
    said-long zero = refl
    said-long (suc n) = length-append (said c h nodes n) _ ∙ omega (arith, said-long n)

    said-last : (n : ℕ) → get_or (said c h nodes (suc n)) n false ≡ node_says c h (said c h nodes n) (get_or nodes n 0)
    unfolding said
    said-last n = get_or_at (said c h nodes n) (node_says c h (said c h nodes n) (get_or nodes n 0)) [] false n (said-long n)

    said-keeps : (n j : ℕ) → j < n → get_or (said c h nodes (suc n)) j false ≡ get_or (said c h nodes n) j false
    unfolding said
    said-keeps n j l =
        get_or-append (said c h nodes n) (node_says c h (said c h nodes n) (get_or nodes n 0) ∷ []) false j (omega (arith, said-long n))

    said_at : (n j : ℕ) → j < n → get_or (said c h nodes n) j false ≡ answer c nodes h j
    unfolding answer
    said_at zero j l = absurd (omega arith)
    said_at (suc n) j l = go (ℕ_discrete j n) (λ m. said_at n j m)
      where
        go : Dec (j ≡ n) → (j < n → get_or (said c h nodes n) j false ≡ get_or (said c h nodes (suc j)) j false)
            → get_or (said c h nodes (suc n)) j false ≡ get_or (said c h nodes (suc j)) j false
        go (yes e) f = ap (λ (z : ℕ). get_or (said c h nodes (suc z)) j false) (sym e)
        go (no d) f = said-keeps n j (omega arith) ∙ f (omega arith)

    pub earlier-before : (k j : ℕ) → j < k → earlier c nodes h k j ≡ answer c nodes h j
    unfolding earlier
    earlier-before k j l = ap (λ (b : Bool). cond b (answer c nodes h j) false) (lt-ltb j k l)

    pub earlier-none : (k j : ℕ) → k ≤ j → earlier c nodes h k j ≡ false
    unfolding earlier
    earlier-none k j l = ap (λ (b : Bool). cond b (answer c nodes h j) false) (le-ltb j k l)

    said-earlier : (k j : ℕ) → get_or (said c h nodes k) j false ≡ earlier c nodes h k j
    said-earlier k j = go (dec_lt j k)
      where
        go : Dec (j < k) → get_or (said c h nodes k) j false ≡ earlier c nodes h k j
        go (yes l) = said_at k j l ∙ sym (earlier-before k j l)
        go (no l) = get_or-eq_default (said c h nodes k) false (omega (arith, said-long k)) ∙ sym (earlier-none k j (omega arith))

    module _ (k : ℕ) where
      -- a node's answer, by those before it and by its operands' values
      pub answer-is :
          let x = get_or nodes k 0 in
          answer c nodes h k ≡ joined_by (op_of x) (earlier c nodes h k (first_of x)) (earlier c nodes h k (second_of x)) (leaf_of c nodes h k)
      unfolding answer leaf_of joined
      answer-is =
          let x = get_or nodes k 0 in
          said-last k ∙ sym (says-joined c h (said c h nodes k) x)
          ∙ ap₂ (λ (p q : Bool). joined_by (op_of x) p q (compared c h (op_of x) (first_of x) (second_of x)))
          (said-earlier k (first_of x)) (said-earlier k (second_of x))

      pub answer-join :
          let x = get_or nodes k 0 in
          op_of x < 5 → answer c nodes h k ≡ joined_by (op_of x) (earlier c nodes h k (first_of x)) (earlier c nodes h k (second_of x)) false
      answer-join l = answer-is ∙ joined_same (op_of (get_or nodes k 0)) _ _ _ _ _ _ (λ a b. refl) (λ a b. refl) (λ a. absurd (omega arith))

      pub answer-leaf : 5 ≤ op_of (get_or nodes k 0) → answer c nodes h k ≡ leaf_of c nodes h k
      answer-leaf l = answer-is ∙ joined-high (op_of (get_or nodes k 0)) _ _ _ l

    -- the formula says what its last node says
    pub answer-last : (n : ℕ) → length nodes ≡ suc n → holds c h nodes ≡ answer c nodes h n
    unfolding holds answer
    answer-last n e = ap (λ (k : ℕ). get_or (said c h nodes k) (k - 1) false) e ∙ ap (λ (k : ℕ). get_or (said c h nodes (suc n)) k false) (omega arith)

    pub holds-none : length nodes ≡ 0 → holds c h nodes ≡ false
    unfolding holds said
    holds-none e = ap (λ (k : ℕ). get_or (said c h nodes k) (k - 1) false) e

  -- what is said before a node is the same, where the nodes before it say the same
  pub earlier-same : (g h : Holders) (k j : ℕ) → (j < k → answer c nodes g j ≡ answer c nodes h j) → earlier c nodes g k j ≡ earlier c nodes h k j
  earlier-same g h k j f = go (dec_lt j k)
    where
      go : Dec (j < k) → earlier c nodes g k j ≡ earlier c nodes h k j
      go (yes m) = earlier-before g k j m ∙ f m ∙ sym (earlier-before h k j m)
      go (no m) = earlier-none g k j (omega arith) ∙ sym (earlier-none h k j (omega arith))
