-- Which nodes of a formula depend on a holder: a comparison with an operand of it, and a node that joins one that depends on it.
-- Assumes nothing.
use Rattle.std.specs.Prelude.{◌≡◌, Bool, false, ◌&&◌, ◌||◌, cond, List, ℕ, ◌<◌, ltb, eqb, get_or}
use Rattle.policy.specs.Nodes.{op_of, first_of, second_of, holder_of}

-- whether node k depends on holder h, where d says it of the nodes before
unfoldable pub depends_at : (ℕ → Bool) → ℕ → ℕ → ℕ → Bool
depends_at d node k h =
    cond (ltb (op_of node) 2) false
    (cond (eqb (op_of node) 2) (ltb (first_of node) k && d (first_of node))
    (cond (ltb (op_of node) 5) ((ltb (first_of node) k && d (first_of node)) || (ltb (second_of node) k && d (second_of node)))
    (eqb (holder_of (first_of node)) h || eqb (holder_of (second_of node)) h)))

-- d says it of the first n nodes
pub record Depends (node : ℕ → ℕ) (h n : ℕ) (d : List Bool) : Type 0 where
  pub each : (k : ℕ) → k < n → get_or d k false ≡ depends_at (λ j. get_or d j false) (node k) k h
