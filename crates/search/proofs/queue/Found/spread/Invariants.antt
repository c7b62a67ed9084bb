-- `Found::spread` meets its contract. The loop's invariant: the new values of the row before the next one are in.
use Rattle.std.proofs.Common.{◌≡◌}
use Rattle.lanes.specs.Lanes.{lane_of, lowest_of}
use Rattle.lanes.proofs.Laws.{Left}
use Rattle.search.specs.Queue.{spread_to}
use Rattle.search.proofs.queue.Found.spread.Given as goal

abbrev pub invariant-loop-y : goal.invariant-loop-y
invariant-loop-y l =
    Left l.initial.y-iterator l.y-iterator × (l.self ≡ spread_to (lane_of l.fn.row) l.initial.self l.parent l.by (lowest_of l.y-iterator))
