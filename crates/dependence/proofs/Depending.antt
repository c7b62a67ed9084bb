-- Which nodes depend on a holder. In order: by operator; one node more; what a comparison depends on; the nodes that a node joins; the nodes of
-- one formula among those of all; nodes that do not depend on a holder say the same, whatever its value.
use mathlib.Core.Path.{◌≡◌, refl, sym, ap, ◌∙◌}
use mathlib.Core.Bool.{Bool, true, false, true≢false, ◌&&◌, ◌||◌}
use mathlib.Core.List.{List}
use Prim.Native.Nat.{ℕ, zero, suc, ◌+◌, ◌*◌, ◌≤◌, ◌<◌}
use native.Mathlib.Decide.{dec_lt, ℕ_discrete}
use native.Mathlib.Omega.{arith}
use borrow.Author.Tests.{lt-ltb, le-ltb, eq-eqb, ne_eqb}
use lib.Dec.{ltb, eqb}
use lib.ListN.{length, get_or, set}
use lib.Seq.{get_or-set_same, get_or-set_other}
use Rattle.policy.specs.Policy.{Lists}
use Rattle.policy.specs.Nodes.{op_of, first_of, second_of, holder_of}
use Rattle.policy.specs.Rules.{nodes_of}
use Rattle.formulas.proofs.Laws.{nodes-at}
use Rattle.dependence.specs.Answers.{holders_of, answer, leaf_of}
use Rattle.dependence.specs.Depends.{depends_at, Depends}
use Rattle.dependence.proofs.Answers.{joined_same, answer-is, earlier-same}
use Rattle.dependence.proofs.Operands.{leaf-two}

module _ (d : ℕ → Bool) (node k h : ℕ) where
  pub at_none : op_of node < 2 → depends_at d node k h ≡ false
  unfolding depends_at
  at_none l = simp (lt-ltb (op_of node) 2 l)

  pub at_one : op_of node ≡ 2 → depends_at d node k h ≡ ltb (first_of node) k && d (first_of node)
  unfolding depends_at
  at_one e = simp (le-ltb (op_of node) 2 (omega arith), eq-eqb (op_of node) 2 e)

  pub at-two : 3 ≤ op_of node → op_of node < 5
      → depends_at d node k h ≡ (ltb (first_of node) k && d (first_of node)) || (ltb (second_of node) k && d (second_of node))
  unfolding depends_at
  at-two a b = simp (le-ltb (op_of node) 2 (omega arith), ne_eqb (op_of node) 2 (λ e. omega arith), lt-ltb (op_of node) 5 b)

  pub at_leaf : 5 ≤ op_of node → depends_at d node k h ≡ eqb (holder_of (first_of node)) h || eqb (holder_of (second_of node)) h
  unfolding depends_at
  at_leaf a = simp (le-ltb (op_of node) 2 (omega arith), ne_eqb (op_of node) 2 (λ e. omega arith), le-ltb (op_of node) 5 a)

-- only the nodes before it matter
before_same : (d e : ℕ → Bool) (k j : ℕ) → ((i : ℕ) → i < k → d i ≡ e i) → ltb j k && d j ≡ ltb j k && e j
before_same d e k j f = go (dec_lt j k)
  where
    go : Dec (j < k) → ltb j k && d j ≡ ltb j k && e j
    go (yes l) = ap (λ (b : Bool). ltb j k && b) (f j l)
    go (no l) = ap (λ (b : Bool). b && d j) (le-ltb j k (omega arith)) ∙ sym (ap (λ (b : Bool). b && e j) (le-ltb j k (omega arith)))

at_same : (d e : ℕ → Bool) (node k h : ℕ) → ((i : ℕ) → i < k → d i ≡ e i) → depends_at d node k h ≡ depends_at e node k h
unfolding depends_at
at_same d e node k h f = rw (before_same d e k (first_of node) f, before_same d e k (second_of node) f) refl

either-false : (a b : Bool) → a || b ≡ false → (a ≡ false) × (b ≡ false)
either-false true b h = (h, cc)
either-false false b h = (refl, h)

earlier-false : (d : ℕ → Bool) (j k : ℕ) → j < k → ltb j k && d j ≡ false → d j ≡ false
earlier-false d j k l f = sym (ap (λ (b : Bool). b && d j) (lt-ltb j k l)) ∙ f

not-eq : (a b : ℕ) → eqb a b ≡ false → a ≡ b → ⊥
not-eq a b f e = true≢false (sym (eq-eqb a b e) ∙ f)

module _ (node : ℕ → ℕ) (x n : ℕ) (d : List Bool) (D : Depends node x n d) where
  -- one node more
  pub depends-more : (b : Bool) → n < length d → b ≡ depends_at (λ j. get_or d j false) (node n) n x → Depends node x (n + 1) (set d n b)
  depends-more b l e = record { each = λ k q. go k (dec_lt k n) q }
    where
      old : (k : ℕ) → k < n → get_or (set d n b) k false ≡ get_or d k false
      old k q = get_or-set_other d n k b false (λ z. omega arith)

      kept : (k : ℕ) → k ≤ n → depends_at (λ j. get_or d j false) (node k) k x ≡ depends_at (λ j. get_or (set d n b) j false) (node k) k x
      kept k q = at_same (λ j. get_or d j false) (λ j. get_or (set d n b) j false) (node k) k x (λ i p. sym (old i (omega arith)))

      go : (k : ℕ) → Dec (k < n) → k < n + 1 → get_or (set d n b) k false ≡ depends_at (λ j. get_or (set d n b) j false) (node k) k x
      go k (yes q) z = old k q ∙ D.each k q ∙ kept k (omega arith)
      go k (no q) z =
          let m : k ≡ n = omega arith in
          ap (λ (i : ℕ). get_or (set d n b) i false) m ∙ get_or-set_same d n b false l ∙ e
          ∙ ap (λ (i : ℕ). depends_at (λ j. get_or d j false) (node i) i x) (sym m)
          ∙ kept k (omega arith)

  -- a comparison depends on the holders of its two operands
  pub depends-operand : (k : ℕ) → k < n → 5 ≤ op_of (node k)
      → get_or d k false ≡ eqb (holder_of (first_of (node k))) x || eqb (holder_of (second_of (node k))) x
  depends-operand k l a = D.each k l ∙ at_leaf (λ j. get_or d j false) (node k) k x a

  module _ (k : ℕ) (l : k < n) (f : get_or d k false ≡ false) where
    pairs-false : 3 ≤ op_of (node k) → op_of (node k) < 5
        → (ltb (first_of (node k)) k && get_or d (first_of (node k)) false ≡ false) × (ltb (second_of (node k)) k && get_or d (second_of (node k)) false ≡ false)
    pairs-false a b = either-false _ _ (sym (at-two (λ j. get_or d j false) (node k) k x a b) ∙ sym (D.each k l) ∙ f)

    -- what a node joins does not depend on the holder, where the node does not
    pub depends-first : 2 ≤ op_of (node k) → op_of (node k) < 5 → first_of (node k) < k → get_or d (first_of (node k)) false ≡ false
    depends-first a b m = earlier-false (λ j. get_or d j false) (first_of (node k)) k m (go (ℕ_discrete (op_of (node k)) 2))
      where
        go : Dec (op_of (node k) ≡ 2) → ltb (first_of (node k)) k && get_or d (first_of (node k)) false ≡ false
        go (yes o) = sym (at_one (λ j. get_or d j false) (node k) k x o) ∙ sym (D.each k l) ∙ f
        go (no o) = (pairs-false (omega arith) b).0

    pub depends-second : 3 ≤ op_of (node k) → op_of (node k) < 5 → second_of (node k) < k → get_or d (second_of (node k)) false ≡ false
    depends-second a b m = earlier-false (λ j. get_or d j false) (second_of (node k)) k m (pairs-false a b).1

-- the nodes of one formula, among those of all
pub depends-own : (nodes : List ℕ) (f x n : ℕ) (d : List Bool)
    → Depends (λ k. get_or nodes (64 * f + k) 0) x n d → Depends (λ k. get_or (nodes_of nodes f n) k 0) x n d
depends-own nodes f x n d D =
    record { each = λ k l. D.each k l ∙ ap (λ (y : ℕ). depends_at (λ j. get_or d j false) y k x) (sym (nodes-at nodes f n k l)) }

-- packed values that differ at holder x only
module _ (c : Lists) (nodes : List ℕ) (x n : ℕ) (d : List Bool) (f g : ℕ → ℕ) (D : Depends (λ k. get_or nodes k 0) x n d)
    (same : (h : ℕ) → (h ≡ x → ⊥) → f h ≡ g h) where
  pub depends-leaf : (k : ℕ) → get_or d k false ≡ false → k < n → 5 ≤ op_of (get_or nodes k 0)
      → leaf_of c nodes (holders_of f) k ≡ leaf_of c nodes (holders_of g) k
  unfolding leaf_of
  depends-leaf k e l a =
      let w = either-false _ _ (sym (depends-operand (λ k. get_or nodes k 0) x n d D k l a) ∙ e) in
      leaf-two c f g (get_or nodes k 0) (same _ (not-eq _ x w.0)) (same _ (not-eq _ x w.1))

  same-below : (m k : ℕ) → k < m → get_or d k false ≡ false → k < n → answer c nodes (holders_of f) k ≡ answer c nodes (holders_of g) k
  same-below zero k q e l = absurd (omega arith)
  same-below (suc m) k q e l =
      let u = first_of (get_or nodes k 0) in
      let v = second_of (get_or nodes k 0) in
      answer-is c nodes (holders_of f) k
      ∙ joined_same (op_of (get_or nodes k 0)) _ _ _ _ _ _
      (λ a b. earlier-same c nodes _ _ k u (λ p. same-below m u (omega arith) (depends-first (λ k. get_or nodes k 0) x n d D k l e a b p) (omega arith)))
      (λ a b. earlier-same c nodes _ _ k v (λ p. same-below m v (omega arith) (depends-second (λ k. get_or nodes k 0) x n d D k l e a b p) (omega arith)))
      (λ a. depends-leaf k e l a)
      ∙ sym (answer-is c nodes (holders_of g) k)

  -- a node that does not depend on holder x says the same
  pub depends-same : (k : ℕ) → get_or d k false ≡ false → k < n → answer c nodes (holders_of f) k ≡ answer c nodes (holders_of g) k
  depends-same k e l = same-below (suc k) k (omega arith) e l
