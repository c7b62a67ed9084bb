-- `rules::copy_front` meets its contract: the bytes are copied where there is room.
use Rattle.rules.proofs.Laws.{short-written, short-filled, long-written, long_filled}
use Rattle.rules.proofs.copy_front.Goals as goal

pub returns-then-out-n-clause-value : goal.returns-then-out-n-clause-value
returns-then-out-n-clause-value c = short-written _ _ c.if-out-n.true

pub returns-then-out-n-clause-out_after : goal.returns-then-out-n-clause-out_after
returns-then-out-n-clause-out_after c = short-filled _ _ c.if-out-n.true

pub returns-clause-value : goal.returns-clause-value
returns-clause-value c = long-written _ _ c.if-out-n.false

pub returns-clause-out_after : goal.returns-clause-out_after
returns-clause-out_after c = rw c.copy_from_slice.ensures.after (long_filled _ _ c.if-out-n.false)
