-- Private vocabulary: operands that are fields of the lane's number with few values.
-- Assumes nothing.
use Rattle.std.specs.Prelude.{◌≡◌, List, ℕ, ◌/◌, ◌%◌, ◌^◌, ◌≤◌}
use Rattle.sides.specs.Side.{operand_at}
use Rattle.sides.specs.declared.Field.{Field}
use Rattle.sides.specs.declared.Side.{Side}
use Rattle.sides.specs.declared.Side.TheVariants.{Lane}
use Rattle.leaves.specs.Values.{Hot}
use Rattle.leaves.specs.declared.values.Way.{Way}
use Rattle.leaves.specs.declared.values.Way.TheVariants.{First, Second, Neither}

-- x is the field f of the lane's number, one with few values, whose rows stand in hot, and y is none
pub record Few (f : Field) (x y : Side) (hot : List ℕ) : Type 0 where
  pub field : x ≡ Lane f
  pub bits : f.bits ≤ 4
  pub plain : (i : ℕ) → (operand_at y i).bits ≡ 0
  pub rows : Hot (λ v. v / 2 ^ f.shift % 2 ^ f.bits) (2 ^ f.bits) hot

-- the rows of the operand with few values stand in hot
abbrev pub Laid : Way → Side → Side → List ℕ → Type 0
Laid (First f) x y hot = Few f x y hot
Laid (Second f) x y hot = Few f y x hot
Laid Neither x y hot = Unit {0}
