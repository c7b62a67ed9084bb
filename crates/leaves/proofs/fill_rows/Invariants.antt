-- `leaves::fill_rows` meets its contract. The loop's invariant: the first i rows are filled in.
use mathlib.Core.Path.{◌≡◌}
use lib.ListN.{length}
use Rattle.planes.specs.Word.{compared_in}
use Rattle.bitsets.specs.Rows.{bit_at, Rows, put_from}
use Rattle.sides.specs.Side.{operand_at}
use Rattle.leaves.specs.Ways.{Laid}
use Rattle.leaves.proofs.fill_rows.Given as goal

abbrev pub invariant-loop-i : goal.invariant-loop-i
invariant-loop-i l =
    (length l.area ≡ length l.initial.area)
    × Rows (put_from l.base l.i (λ i. compared_in l.op (operand_at l.x i) (operand_at l.y i)) (bit_at l.initial.area)) l.area × Laid l.way l.x l.y l.hot
