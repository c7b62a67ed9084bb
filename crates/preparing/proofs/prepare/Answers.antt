-- `preparing::prepare` meets its contract.
use Rattle.preparing.proofs.Own.{own-nodes, own-depends}
use Rattle.preparing.proofs.prepare.Goals as goal

pub prepare_with-requires-clause-on_lane : goal.prepare_with-requires-clause-on_lane
prepare_with-requires-clause-on_lane c = own-depends c.args.nodes.now c.args.f c.args.n c.requires.few _ c.places_of-places.ensures _ _ c.depending-lane.ensures

pub prepare_with-requires-clause-on_row : goal.prepare_with-requires-clause-on_row
prepare_with-requires-clause-on_row c = own-depends c.args.nodes.now c.args.f c.args.n c.requires.few _ c.places_of-places.ensures _ _ c.depending-row.ensures

pub prepare_with-requires-clause-on_outer : goal.prepare_with-requires-clause-on_outer
prepare_with-requires-clause-on_outer c = own-depends c.args.nodes.now c.args.f c.args.n c.requires.few _ c.places_of-places.ensures _ _ c.depending-outer.ensures

pub returns-clause-prepared : goal.returns-clause-prepared
returns-clause-prepared c =
    let h = c.new-layout.ensures.holders in
    rw (← c.new-layout.ensures.classes, ← h.0, ← h.1, ← h.2, ← own-nodes c.args.nodes.now c.args.f c.args.n c.requires.few _ c.places_of-places.ensures)
    c.prepare_with.ensures.prepared
