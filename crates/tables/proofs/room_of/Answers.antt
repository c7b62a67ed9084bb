-- `tables::room_of` meets its contract.
use mathlib.Core.Path.{sym}
use Rattle.policy.specs.Rules.{lists_of}
use Rattle.tables.proofs.Filling.{room-none, room-shifted}
use Rattle.tables.proofs.room_of.Goals as goal

pub returns-then-h-ge5-clause-value : goal.returns-then-h-ge5-clause-value
returns-then-h-ge5-clause-value c = sym (room-none (lists_of c.args.classes) c.args.h c.if-h-ge5.true)

pub returns-else-h-ge5-clause-value : goal.returns-else-h-ge5-clause-value
returns-else-h-ge5-clause-value c = room-shifted (lists_of c.args.classes) c.args.h c.width_of.result c.min.result c.if-h-ge5.false c.width_of.ensures c.min.ensures
