-- How the packed values of two holders make the number of an operand. One holder's value stands for a bit of a row (the lane), the
-- other's for a row.
-- Assumes nothing.
use Rattle.std.specs.Prelude.{◌≡◌, List, ℕ, suc, ◌/◌, ◌%◌, ◌^◌, ◌<◌, min, drop}
use Rattle.policy.specs.Policy.{Attr, Lists, bits_for, width}
use Rattle.formulas.specs.Value.{attr_of, operand, size_of_operand}
use Rattle.planes.specs.Word.{number_in}
use Rattle.planes.specs.declared.operand.Operand.{Operand}
use Rattle.dependence.specs.Answers.{holders_of}
use Rattle.sides.specs.Leaf.{two}
use Rattle.sides.specs.declared.Field.{Field}
use Rattle.sides.specs.declared.Side.{Side}
use Rattle.sides.specs.declared.Side.TheVariants.{Row, Lane, Constant}

-- where the value of attribute k lies
unfoldable pub field_of : List Attr → ℕ → Field
field_of l k = record { shift = min (width (drop (suc k) l)) 8; bits = bits_for (attr_of l k); size = (attr_of l k).size }

-- one number in all lanes
abbrev pub constant : ℕ → ℕ → Operand
constant n z = record { shift = 0; bits = 0; number = n; size = z }

-- the operand in the lanes of row i
unfoldable pub operand_at : Side → ℕ → Operand
operand_at (Row f) i = constant (i / 2 ^ f.shift % 2 ^ f.bits) f.size
operand_at (Lane f) i = record { shift = f.shift; bits = f.bits; number = 0; size = f.size }
operand_at (Constant n z) i = constant n z

-- how many values the list of its values has
unfoldable pub size_of : Side → ℕ
size_of (Row f) = f.size
size_of (Lane f) = f.size
size_of (Constant n z) = z

-- s is operand x, where holder a stands for lanes and holder b for rows
pub record Tells (c : Lists) (a b x : ℕ) (s : Side) : Type 0 where
  pub number : (v i : ℕ) → v < 256 → i < 256 → operand c (holders_of (two a b v i)) x ≡ number_in (operand_at s i) v
  pub size : size_of_operand c x ≡ size_of s
