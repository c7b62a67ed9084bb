-- `sides::start_of` meets its contract: all rows have the same operand, or the first row of each part.
use Rattle.sides.proofs.Repeats.{alike-past, start-alike}
use Rattle.sides.proofs.start_of.Goals as goal

pub returns-in-Row-clause-same : goal.returns-in-Row-clause-same
returns-in-Row-clause-same c =
    let f = c.in-Row.f in
    rw c.in-Row.is (start-alike f c.args.i c.requires c.part_of.result c.if-f-lt8.true c.part_of.ensures)

pub returns-in-Row-2-clause-same : goal.returns-in-Row-2-clause-same
returns-in-Row-2-clause-same c = rw c.in-Row.is (alike-past c.in-Row.f c.args.i c.requires c.if-f-lt8.false)
