-- `starting::put::put_items`: the cells that were passed are written.
use Rattle.std.proofs.Common.{◌≡◌, ℕ, ◌<◌, get_or}
use Rattle.cells.specs.Cell.{item_cell}
use Rattle.starting.proofs.put.put_items.Given as goal

abbrev pub invariant-loop-k : goal.invariant-loop-k
invariant-loop-k l = (j : ℕ) → j < l.k → get_or l.front j 0 ≡ item_cell (get_or l.starting.values j 0)
