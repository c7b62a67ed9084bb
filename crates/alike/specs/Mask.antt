-- Private vocabulary: packed values that agree in the bits of a mask.
-- Assumes nothing.
use Rattle.std.specs.Prelude.{◌≡◌, true, List, ℕ, ◌/◌, ◌%◌, ◌^◌, ◌≤◌, ◌<◌, get_or}
use Rattle.std.specs.Int.Bits.{bit_and}
use Rattle.lanes.specs.Lanes.{lane_of}
use Rattle.policy.specs.Nodes.{op_of, first_of, second_of}

-- values that agree in the bits of m have the same field of `bits` bits from bit `shift` on
pub record Keeps (shift bits m : ℕ) : Type 0 where
  pub field : (v w : ℕ) → v < 256 → w < 256 → bit_and v m ≡ bit_and w m → v / 2 ^ shift % 2 ^ bits ≡ w / 2 ^ shift % 2 ^ bits

-- they have the same fields for both operands of the node, if it is a comparison; the tables say where the fields of operands are
pub record KeepsNode (shifts bits : List ℕ) (node m : ℕ) : Type 0 where
  pub first : 5 ≤ op_of node → Keeps (get_or shifts (first_of node) 0) (get_or bits (first_of node) 0) m
  pub second : 5 ≤ op_of node → Keeps (get_or shifts (second_of node) 0) (get_or bits (second_of node) 0) m

-- r has some of the values of `among`, and for each of them the same or a later one that agrees with it in the bits of m
pub record OneOfEachIn (m : ℕ) (among r : List ℕ) : Type 0 where
  pub inside : (v : ℕ) → v < 256 → lane_of r v ≡ true → lane_of among v ≡ true
  pub later : (w : ℕ) → w < 256 → lane_of among w ≡ true → (v : ℕ) × (v < 256) × (w ≤ v) × (lane_of r v ≡ true) × (bit_and v m ≡ bit_and w m)
