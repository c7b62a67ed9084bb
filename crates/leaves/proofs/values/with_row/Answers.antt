-- `leaves::values::with_row` meets its contract: the row is asked for, or not.
use mathlib.Core.Path.{◌≡◌}
use lib.ListN.{length}
use Rattle.bitsets.specs.Rows.{bit_at}
use Rattle.leaves.proofs.Joins.{with-taken, with-left}
use borrow.Author.Rules.{rules}
use Rattle.leaves.proofs.values.with_row.Goals as goal

pub returns-then-on : goal.returns-then-on
returns-then-on c =
    let a = c.args in
    let l : length a.r ≡ 4 = search rules in
    with-taken (bit_at a.t.now a.a) a.on _ a.r _ c.if-on.true c.load.ensures l c.or.ensures

pub returns : goal.returns
returns c =
    let a = c.args in
    let l : length a.r ≡ 4 = search rules in
    with-left (bit_at a.t.now a.a) a.on a.r c.if-on.false l
