-- Holders by their packed values. In order: a holder's packed value; an operand reads its own holder only; a comparison those of its two operands.
use mathlib.Core.Path.{◌≡◌, refl, sym, ◌∙◌}
use Prim.Native.Nat.{ℕ, zero, suc, ◌≤◌, ◌<◌}
use native.Mathlib.Decide.{dec_lt}
use native.Mathlib.Omega.{arith}
use borrow.Author.Tests.{le-ltb}
use Rattle.policy.specs.Policy.{Lists}
use Rattle.policy.specs.Nodes.{op_of, first_of, second_of, holder_of}
use Rattle.formulas.specs.Value.{held_by, operand}
use Rattle.formulas.specs.Meaning.{compared}
use Rattle.formulas.specs.declared.Holders.{Holders}
use Rattle.dependence.specs.Answers.{holders_of}

pub held_of : (f : ℕ → ℕ) (h : ℕ) → h < 5 → held_by (holders_of f) h ≡ f h
unfolding held_by holders_of
held_of f zero l = refl
held_of f (suc zero) l = refl
held_of f (suc (suc zero)) l = refl
held_of f (suc (suc (suc zero))) l = refl
held_of f (suc (suc (suc (suc zero)))) l = refl
held_of f (suc (suc (suc (suc (suc h))))) l = absurd (omega arith)

module _ (c : Lists) where
  operand-held : (g h : Holders) (o : ℕ) → held_by g (holder_of o) ≡ held_by h (holder_of o) → operand c g o ≡ operand c h o
  unfolding operand
  operand-held g h o e = rw e refl

  -- a constant, or nothing
  operand-none : (g h : Holders) (o : ℕ) → 5 ≤ holder_of o → operand c g o ≡ operand c h o
  unfolding operand
  operand-none g h o l = simp (le-ltb (holder_of o) 5 l)

  pub compared_same : (g h : Holders) (op a b : ℕ) → operand c g a ≡ operand c h a → operand c g b ≡ operand c h b
      → compared c g op a b ≡ compared c h op a b
  unfolding compared
  compared_same g h op a b p q = rw (p, q) refl

  module _ (f g : ℕ → ℕ) where
    -- an operand reads its own holder only
    pub operand-of : (o : ℕ) → f (holder_of o) ≡ g (holder_of o) → operand c (holders_of f) o ≡ operand c (holders_of g) o
    operand-of o e = go (dec_lt (holder_of o) 5)
      where
        go : Dec (holder_of o < 5) → operand c (holders_of f) o ≡ operand c (holders_of g) o
        go (yes l) = operand-held (holders_of f) (holders_of g) o (held_of f (holder_of o) l ∙ e ∙ sym (held_of g (holder_of o) l))
        go (no l) = operand-none (holders_of f) (holders_of g) o (omega arith)

    -- a comparison reads the holders of its two operands only
    pub leaf-two : (node : ℕ)
        → f (holder_of (first_of node)) ≡ g (holder_of (first_of node)) → f (holder_of (second_of node)) ≡ g (holder_of (second_of node))
        → compared c (holders_of f) (op_of node) (first_of node) (second_of node) ≡ compared c (holders_of g) (op_of node) (first_of node) (second_of node)
    leaf-two node a b = compared_same _ _ (op_of node) (first_of node) (second_of node) (operand-of (first_of node) a) (operand-of (second_of node) b)
