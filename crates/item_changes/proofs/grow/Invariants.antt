-- `grow` meets its contract. The loop's invariant: the places below i are worked off.
use Rattle.std.proofs.Common.{◌≡◌}
use Rattle.lanes.specs.Lanes.{lane_of}
use Rattle.allowed_rows.specs.Asked.{ModifyPrepared}
use Rattle.allowed_rows.specs.Basis.{model_by}
use Rattle.search.specs.Items.{grow_items}
use Rattle.item_changes.proofs.grow.Given as goal

abbrev pub invariant-loop-i : goal.invariant-loop-i
invariant-loop-i l =
    ModifyPrepared l.basis l.plan l.area × (l.queue ≡ grow_items (model_by l.basis) (lane_of l.ready) l.initial.queue l.i)
