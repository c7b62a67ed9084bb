-- The claims of specs/Claims.antt, one line each.
use mathlib.Core.Path.{sym, ◌∙◌}
use Rattle.cells.specs.Claims.{RowsAreTheirParts, CellsAreTheirOwn, LentStateAsItReads}
use Rattle.cells.proofs.Rows as rows
use Rattle.cells.proofs.Laws.{place_of-is, session-reads, session-there, item-reads, item-there}

pub rows-are-their-parts : RowsAreTheirParts
rows-are-their-parts = record { parts_again = rows.parts_again; row-again = rows.row-again; parts-fit = rows.parts-fit }

pub cells-are-their-own : CellsAreTheirOwn
cells-are-their-own j k e = sym (place_of-is j) ∙ e ∙ place_of-is k

pub lent-state-as-it-reads : LentStateAsItReads
lent-state-as-it-reads =
    record {
      sessions = λ users listed cells next k u v a b. (session-reads users listed cells next k u v, session-there users listed cells next k u v a b);
      items = λ listed cells next k v b. (item-reads listed cells next k v, item-there listed cells next k v b);
    }
