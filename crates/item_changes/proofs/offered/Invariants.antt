-- `offered` meets its contract. The loop's invariant: of the session values that are no longer to come each has changed the item.
use Rattle.std.specs.Iterator.Adapters.{rev_source}
use Rattle.allowed_rows.specs.Asked.{ModifyReady}
use Rattle.allowed_rows.specs.Basis.{model_by}
use Rattle.item_changes.proofs.Offering.{Offering}
use Rattle.item_changes.proofs.offered.Given as goal

abbrev pub invariant-loop-v : goal.invariant-loop-v
invariant-loop-v l =
    ModifyReady l.basis l.plan l.o l.area × Offering (model_by l.basis) l.fn.ready l.initial.queue l.i (rev_source l.v-iterator) l.queue
