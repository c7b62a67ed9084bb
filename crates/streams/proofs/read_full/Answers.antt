-- The bytes of one read after those of the reads before it.
use Rattle.std.proofs.Common.{rules}
use Rattle.streams.proofs.Filled.{consumes_more}
use Rattle.streams.proofs.read_full.Goals as goal

pub loop-filled-preserved : goal.loop-filled-preserved
loop-filled-preserved g c =
    let read = c.in_ok-n.ensures in
    (search rules, search rules, search rules, consumes_more _ _ _ _ _ c.loop-filled.filled c.in_ok-n.n read.front c.loop-filled.invariant.3 read.ok)
