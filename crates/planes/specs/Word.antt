-- Words of 64 lanes, one bit a lane: lane j of word w stands for the number 64 * w + j. What a comparison of operands says in a lane.
-- Assumes nothing.
use Rattle.std.specs.Prelude.{◌≡◌, Bool, cond, List, [], ◌∷◌, ℕ, ◌+◌, ◌*◌, ◌/◌, ◌%◌, ◌^◌, ◌<◌}
use Rattle.lanes.specs.Lanes.{bit_of}
use Rattle.formulas.specs.Parts.{compared_by}
use Rattle.planes.specs.declared.operand.Operand.{Operand}

-- each bit of x is what f says of the number of its lane of word w
pub record Word (f : ℕ → Bool) (w x : ℕ) : Type 0 where
  pub each : (j : ℕ) → j < 64 → bit_of x j ≡ f (64 * w + j)

-- the number of lane j by its planes: bit k of it is bit j of word k
unfoldable pub lane_number : List ℕ → ℕ → ℕ
lane_number [] j = 0
lane_number (x ∷ t) j = 2 * lane_number t j + cond (bit_of x j) 1 0

-- each bit of x is what f says of the number of its lane by the planes t
pub record Told (t : List ℕ) (f : ℕ → Bool) (x : ℕ) : Type 0 where
  pub each : (j : ℕ) → j < 64 → bit_of x j ≡ f (lane_number t j)

-- the planes t are those of word w: by them each lane has the number that it stands for
pub record Planes (w : ℕ) (t : List ℕ) : Type 0 where
  pub each : (j : ℕ) → j < 64 → lane_number t j ≡ 64 * w + j

-- the number of an operand in the lane of v: its last bits are a field of v, the others those of one number
unfoldable pub number_in : Operand → ℕ → ℕ
number_in o v = o.number / 2 ^ o.bits * 2 ^ o.bits + v / 2 ^ o.shift % 2 ^ o.bits

-- what a comparison of operands says in the lane of v
unfoldable pub compared_in : ℕ → Operand → Operand → ℕ → Bool
compared_in op x y v = compared_by op (number_in x v) x.size (number_in y v) y.size
