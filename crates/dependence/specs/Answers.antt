-- What each node of a formula says, as a function of the node.
-- Assumes nothing.
use Rattle.std.specs.Prelude.{Bool, false, cond, List, ℕ, suc, ltb, get_or}
use Rattle.policy.specs.Policy.{Lists}
use Rattle.policy.specs.Nodes.{op_of, first_of, second_of}
use Rattle.formulas.specs.Meaning.{compared, said}
use Rattle.formulas.specs.declared.Holders.{Holders}

-- the holders whose packed values are f 0 to f 4
unfoldable pub holders_of : (ℕ → ℕ) → Holders
holders_of f = record { user = f 0; session = f 1; newsession = f 2; item = f 3; newitem = f 4 }

module _ (c : Lists) (nodes : List ℕ) (h : Holders) where
  -- what node k says
  unfoldable pub answer : ℕ → Bool
  answer k = get_or (said c h nodes (suc k)) k false

  -- what is said of node j before node k: false from k on
  unfoldable pub earlier : ℕ → ℕ → Bool
  earlier k j = cond (ltb j k) (answer j) false

  -- what the comparison of node k says
  unfoldable pub leaf_of : ℕ → Bool
  leaf_of k = compared c h (op_of (get_or nodes k 0)) (first_of (get_or nodes k 0)) (second_of (get_or nodes k 0))
