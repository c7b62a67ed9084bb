-- Private vocabulary of this crate: what a node says by the answers before it or by two tables of its operands, and tables that are filled
-- class by class.
-- Assumes nothing.
use Rattle.std.specs.Prelude.{◌≡◌, Bool, true, false, not, ◌&&◌, ◌||◌, cond, List, ℕ, ◌+◌, ◌-◌, ◌*◌, ◌≤◌, ◌<◌, ltb, leb, eqb, length, get_or, set}
use Rattle.bits.specs.Set.{in_set, subset_of, proper_of}
use Rattle.policy.specs.Policy.{Lists}
use Rattle.policy.specs.Nodes.{op_of, first_of, second_of, holder_of, place_of, of_holder}
use Rattle.formulas.specs.Value.{attr_of, part_of, held_by}
use Rattle.formulas.specs.Meaning.{said}
use Rattle.formulas.specs.declared.Holders.{Holders}

-- what a comparison says of two values and the sizes of their lists
unfoldable pub compared_by : ℕ → ℕ → ℕ → ℕ → ℕ → Bool
compared_by op x m y n =
    cond (eqb op 5) (eqb x y)
    (cond (eqb op 6) (ltb x y)
    (cond (eqb op 7) (leb x y)
    (cond (eqb op 8) (in_set n y x)
    (cond (eqb op 9) (subset_of m x n y)
    (cond (eqb op 10) (proper_of m x n y) false)))))

-- what a node of operator op says of two answers before it, or other where its operator is none that joins answers
unfoldable pub joined_by : ℕ → Bool → Bool → Bool → Bool
joined_by op x y other =
    cond (eqb op 0) false
    (cond (eqb op 1) true
    (cond (eqb op 2) (not x)
    (cond (eqb op 3) (x && y)
    (cond (eqb op 4) (x || y) other))))

-- the same, by the answers of all nodes before it
unfoldable pub joined : List Bool → ℕ → Bool → Bool
joined before node other = joined_by (op_of node) (get_or before (first_of node) false) (get_or before (second_of node) false) other

-- what a comparison says, by the values and sizes of all operands
unfoldable pub compared_over : List ℕ → List ℕ → ℕ → Bool
compared_over values sizes node =
    let a = first_of node in
    let b = second_of node in
    compared_by (op_of node) (get_or values a 0) (get_or sizes a 0) (get_or values b 0) (get_or sizes b 0)

-- the answers of the first n nodes stand in an array of bools, and the last of them is at hand
pub record Said (c : Lists) (v : Holders) (nodes : List ℕ) (n : ℕ) (before : List Bool) (last : Bool) : Type 0 where
  pub answers : (j : ℕ) → get_or before j false ≡ get_or (said c v nodes n) j false
  pub newest : last ≡ get_or (said c v nodes n) (n - 1) false

-- a table after x and y are stored at place k of the holders g and h
unfoldable pub placed : List ℕ → ℕ → ℕ → ℕ → ℕ → ℕ → List ℕ
placed t g h k x y = set (set t (32 * g + k) x) (32 * h + k) y

-- new is old with the places of the holders g to h from k on filled in by part, where they were 0
pub record Filling (part : ℕ → ℕ → ℕ) (g h k : ℕ) (old new : List ℕ) : Type 0 where
  pub same_length : length new ≡ length old
  pub inside : (x : ℕ) → x < length old → g ≤ holder_of x → holder_of x ≤ h → k ≤ place_of x → get_or old x 0 ≡ 0 → get_or new x 0 ≡ part (holder_of x) (place_of x)
  pub outside : (x : ℕ) → (g ≤ holder_of x → holder_of x ≤ h → place_of x < k) → get_or new x 0 ≡ get_or old x 0

-- a table of all operands whose first h holders are filled in by part, and whose others are 0
pub record Table (part : ℕ → ℕ → ℕ) (h : ℕ) (t : List ℕ) : Type 0 where
  pub size : length t ≡ 256
  pub done : (x : ℕ) → x < 256 → holder_of x < h → get_or t x 0 ≡ part (holder_of x) (place_of x)
  pub rest : (x : ℕ) → x < 256 → h ≤ holder_of x → get_or t x 0 ≡ 0

-- the number at place k of holder h
unfoldable pub value_at : Lists → Holders → ℕ → ℕ → ℕ
value_at c v h k = cond (ltb h 5) (part_of (of_holder c h) k (held_by v h)) (cond (eqb h 5) k 0)

-- the size of the list at place k of holder h
unfoldable pub size_at : Lists → ℕ → ℕ → ℕ
size_at c h k = cond (ltb h 5) (attr_of (of_holder c h) k).size 0
