-- `bring_item` meets its contract. The loop's invariant: the first j steps on the way are written.
use Rattle.std.proofs.Common.{◌≡◌, length}
use Rattle.session_rows.specs.Writing.{writing_of, Wrote}
use Rattle.leak.specs.Leak.{item_to}
use Rattle.leak.proofs.bring_item.Given as goal

abbrev pub invariant-loop-j : goal.invariant-loop-j
invariant-loop-j l =
    Wrote l.initial.pen l.initial.rows l.pen l.rows
    × (writing_of l.pen l.rows ≡ item_to (length l.initial.rows) l.searches.users.now l.searches.by l.q l.pos l.t l.j (writing_of l.initial.pen l.initial.rows))
