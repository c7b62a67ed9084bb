-- The steps of a formula's nodes on one board: the rows from `own` on, row own + k for node k. Row 0 has no bit.
-- Assumes nothing.
use Rattle.std.specs.Prelude.{Bool, cond, List, [], ◌∷◌, ◌++◌, ℕ, zero, suc, ◌+◌, ltb}
use Rattle.policy.specs.Nodes.{op_of, first_of, second_of}
use Rattle.bitsets.specs.Steps.{step_of}

-- the row of a node j that stands before node k; row 0 where it does not
unfoldable pub ref_of : ℕ → ℕ → ℕ → ℕ
ref_of own j k = cond (ltb j k) (own + j) 0

-- the step of node k. Where the bits of its row can differ: a join of earlier rows, row i of its table where the index decides it too, or its one row.
-- Where they can't: bit i of its row on the board that begins at `from`
unfoldable pub node_step : ℕ → ℕ → Bool → Bool → ℕ → ℕ → ℕ → ℕ
node_step own from differ indexed node k base =
    cond differ
    (cond (ltb (op_of node) 5) (step_of (op_of node) (own + k) (ref_of own (first_of node) k) (ref_of own (second_of node) k))
    (cond indexed (step_of 6 (own + k) base 0) (step_of 4 (own + k) base base)))
    (step_of 5 (own + k) (from + k) 0)

-- the steps of the nodes below n that are chosen, in order
unfoldable pub steps_of : (ℕ → Bool) → (ℕ → ℕ) → ℕ → List ℕ
steps_of chosen step zero = []
steps_of chosen step (suc n) = steps_of chosen step n ++ cond (chosen n) (step n ∷ []) []
