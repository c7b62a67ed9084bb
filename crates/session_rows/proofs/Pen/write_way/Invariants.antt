-- `Pen::write_way` meets its contract. The loop's invariant: the first j of the rows that it goes over are those of the way.
use Rattle.std.proofs.Common.{◌≡◌, ℕ, ◌+◌, ◌<◌, length, get_or}
use Rattle.session_rows.proofs.Laws.{way_row}
use Rattle.session_rows.proofs.Pen.write_way.Given as goal

abbrev pub invariant-loop-j : goal.invariant-loop-j
invariant-loop-j l = (length l.row-items ≡ l.count) × ((k : ℕ) → k < l.j → get_or l.row-items k 0 ≡ way_row l.q l.pos l.u l.n (l.first + k))
