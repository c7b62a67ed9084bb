-- `asked` meets its contract. The loop's invariant: the values not found yet before the next one are asked for.
use Rattle.allowed_rows.specs.Asked.{MakeReady}
use Rattle.allowed_rows.specs.Basis.{model_by}
use Rattle.item_starts.proofs.Asking.{Asking}
use Rattle.item_starts.proofs.asked.Given as goal

abbrev pub invariant-loop-n : goal.invariant-loop-n
invariant-loop-n l =
    MakeReady l.basis l.plan l.area × Asking (model_by l.basis) l.ready l.initial.queue l.initial.n-iterator l.n-iterator l.queue
