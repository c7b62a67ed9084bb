-- Private vocabulary: where the values of a holder's operands lie in its packed value.
-- Assumes nothing.
use Rattle.std.specs.Prelude.{cond, List, ℕ, suc, min, eqb, drop}
use Rattle.policy.specs.Policy.{Attr, bits_for, width}
use Rattle.policy.specs.Nodes.{holder_of, place_of}
use Rattle.formulas.specs.Value.{attr_of}

-- how many bits stand right of the value of operand x in the packed value of holder h, which has the attributes l: at most 8, and 0 where the operand is
-- of another holder
unfoldable pub shift_in : List Attr → ℕ → ℕ → ℕ
shift_in l h x = cond (eqb (holder_of x) h) (min (width (drop (suc (place_of x)) l)) 8) 0

-- how many bits the value has itself: none where the operand is of another holder
unfoldable pub bits_in : List Attr → ℕ → ℕ → ℕ
bits_in l h x = cond (eqb (holder_of x) h) (bits_for (attr_of l (place_of x))) 0
