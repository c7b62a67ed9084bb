-- What an operand of a node names, as one value. Cited by the contracts of the functions that judge nodes, and by no theorem.
-- Assumes nothing.
use Rattle.std.specs.Prelude.{Bool, true, false, not, ◌&&◌, cond, ℕ, ltb, leb, eqb, Option, Some, None, Result, Ok, Err}
use Rattle.refusal.specs.declared.Refusal.{Refusal}
use Rattle.policy.specs.Policy.{Lists}
use Rattle.policy.specs.Nodes.{holder_of, place_of, named, names}
use Rattle.policy.specs.declared.nodes.Operand.{Operand}

-- what the operand x of formula f names, if it may stand there
unfoldable pub operand_of : Lists → ℕ → ℕ → Option Operand
operand_of c f x =
    cond (eqb (holder_of x) 5) (cond (ltb (place_of x) 16) (Some Operand.Constant) None)
    (cond (names c f 0 x) (Some (Operand.Atomic (named c x).list)) (cond (names c f 1 x) (Some (Operand.Set (named c x).list)) None))

-- whether it names a set
abbrev pub is_set : Operand → Bool
is_set (Operand.Atomic n) = false
is_set (Operand.Set n) = true
is_set Operand.Constant = false

-- the list number of the attribute that it names
abbrev pub list_of : Operand → Option ℕ
list_of (Operand.Atomic n) = Some n
list_of (Operand.Set n) = Some n
list_of Operand.Constant = None

-- whether two attributes have the same list number; a constant fits any list
abbrev pub share_list : Operand → Operand → Bool
share_list a b = same (list_of a) (list_of b)
  where
    same : Option ℕ → Option ℕ → Bool
    same None q = true
    same (Some n) None = true
    same (Some n) (Some m) = eqb n m

-- whether the operator takes two such operands
abbrev pub takes_operands : ℕ → Operand → Operand → Bool
takes_operands op a b =
    cond (leb op 4) false
    (cond (leb op 7) (not (is_set a) && not (is_set b))
    (cond (eqb op 8) (not (is_set a) && is_set b)
    (cond (leb op 10) (is_set a && is_set b) false)))

-- what comes of a node that compares two operands
abbrev pub judged_operands : ℕ → Option Operand → Option Operand → Result (Unit {0}) Refusal
judged_operands op None b = Err Refusal.Node
judged_operands op (Some a) None = Err Refusal.Node
judged_operands op (Some a) (Some b) = cond (takes_operands op a b) (cond (share_list a b) (Ok tt) (Err Refusal.Lists)) (Err Refusal.Node)
