-- `bitsets::whole` meets its contract: all lanes where the bit is set, else none.
use mathlib.Core.Path.{sym}
use Rattle.lanes.proofs.Laws.{lanes-as}
use Rattle.bitsets.proofs.whole.Goals as goal

pub returns-then-b : goal.returns-then-b
returns-then-b c = lanes-as _ _ _ c.all.ensures (λ v h. sym c.if-b.true)

pub returns-else-b : goal.returns-else-b
returns-else-b c = lanes-as _ _ _ c.none.ensures (λ v h. sym c.if-b.false)
