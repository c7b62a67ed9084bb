-- What a comparison says of two holders, the others having value 0.
-- Assumes nothing.
use Rattle.std.specs.Prelude.{Bool, cond, ℕ, eqb}
use Rattle.policy.specs.Policy.{Lists}
use Rattle.policy.specs.Nodes.{op_of, first_of, second_of}
use Rattle.formulas.specs.Meaning.{compared}
use Rattle.dependence.specs.Answers.{holders_of}

-- the packed value of holder h, where that of holder a is v and that of holder b is i
unfoldable pub two : ℕ → ℕ → ℕ → ℕ → ℕ → ℕ
two a b v i h = cond (eqb h a) v (cond (eqb h b) i 0)

-- what the comparison of a node says of them
unfoldable pub leaf : Lists → ℕ → ℕ → ℕ → ℕ → ℕ → Bool
leaf c a b node i v = compared c (holders_of (two a b v i)) (op_of node) (first_of node) (second_of node)
