-- What a list of nodes says of the holders' values [01:The rule file, the operator table]. The nodes are gone through in order, and the last is
-- the answer. Total for all rules: a reference to a node that is not there is false, an unknown operator is false, and so is no node at all.
-- Assumes nothing.
use Rattle.std.specs.Prelude.{Bool, true, false, not, ◌&&◌, ◌||◌, cond, List, [], ◌∷◌, ◌++◌, ℕ, zero, suc, ◌-◌, ltb, leb, eqb, length, get_or}
use Rattle.bits.specs.Set.{in_set, subset_of, proper_of}
use Rattle.policy.specs.Policy.{Lists}
use Rattle.policy.specs.Nodes.{op_of, first_of, second_of}
use Rattle.formulas.specs.Value.{operand, size_of_operand}
use Rattle.formulas.specs.declared.Holders.{Holders}

-- what a comparison says of the values that its operands name: atomic values by number, sets by members
unfoldable pub compared : Lists → Holders → ℕ → ℕ → ℕ → Bool
compared c v op a b =
    let x = operand c v a in
    let y = operand c v b in
    let m = size_of_operand c a in
    let n = size_of_operand c b in
    cond (eqb op 5) (eqb x y)
    (cond (eqb op 6) (ltb x y)
    (cond (eqb op 7) (leb x y)
    (cond (eqb op 8) (in_set n y x)
    (cond (eqb op 9) (subset_of m x n y)
    (cond (eqb op 10) (proper_of m x n y) false)))))

-- what a node says, given what the nodes before it say
unfoldable pub node_says : Lists → Holders → List Bool → ℕ → Bool
node_says c v before node =
    let a = first_of node in
    let b = second_of node in
    cond (eqb (op_of node) 0) false
    (cond (eqb (op_of node) 1) true
    (cond (eqb (op_of node) 2) (not (get_or before a false))
    (cond (eqb (op_of node) 3) (get_or before a false && get_or before b false)
    (cond (eqb (op_of node) 4) (get_or before a false || get_or before b false)
    (compared c v (op_of node) a b)))))

-- what the first n of the nodes say, one after another
unfoldable pub said : Lists → Holders → List ℕ → ℕ → List Bool
said c v nodes zero = []
said c v nodes (suc n) = let before = said c v nodes n in before ++ node_says c v before (get_or nodes n 0) ∷ []

-- what a formula says: its last node
unfoldable pub holds : Lists → Holders → List ℕ → Bool
holds c v nodes = get_or (said c v nodes (length nodes)) (length nodes - 1) false
