-- `Pen::bring` meets its contract: the rows of the way keep the next number.
use Rattle.std.proofs.Common.{length, arith}
use Rattle.session_rows.specs.Writing.{writing_of}
use Rattle.session_rows.specs.Way.{way_rows}
use Rattle.session_rows.proofs.Laws.{after-way}
use Rattle.session_rows.proofs.Pen.bring.Goals as goal

pub stand-requires : goal.stand-requires
stand-requires c =
    let a = c.args in
    omega (arith, after-way (length a.rows.now) (way_rows a.q.now c.place_of.result 0 a.u a.self.now.next) (writing_of a.self.now a.rows.now) c.write_way.ensures.rows_after)
