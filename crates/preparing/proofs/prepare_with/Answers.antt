-- `preparing::prepare_with` meets its contract: row 0 has no bit, the tables are filled in, the nodes that depend on neither holder are worked out, and
-- the steps of the others are listed.
use mathlib.Core.Path.{refl}
use native.Mathlib.Omega.{arith}
use Rattle.prepared.specs.StepList.{listed}
use Rattle.preparing.specs.declared.steps.Level.TheVariants.{Outer}
use Rattle.preparing.proofs.Own.{tables-own}
use Rattle.preparing.proofs.Whole.{stored-none, room-few, level-fit, prepared-of}
use Rattle.preparing.proofs.prepare_with.Goals as goal

pub run-requires : goal.run-requires
run-requires c =
    let y = c.args.layout.now in
    level-fit y c.args.nodes.now c.args.marks.now _ 0 _ Outer c.requires.few (room-few y).0
    (omega (arith, c.requires.area_long, c.store.ensures.area_len_unchanged, c.fill_tables.ensures.area_len_unchanged)) (listed c.list.result) c.list.ensures

pub returns-clause-prepared : goal.returns-clause-prepared
returns-clause-prepared c =
    let r = c.requires in
    let t = c.fill_tables in
    prepared-of c.args.layout.now c.args.nodes.now c.args.marks.now _ r.apart refl refl refl r.on_lane r.on_row r.on_outer c.store.new.area t.new.area _
    (stored-none _ _ _ c.none.ensures c.store.ensures.rows) (tables-own _ _ _ _ _ _ _ _ _ _ _ _ t.ensures.tables) (listed c.list.result) c.list.ensures c.run.ensures.rows
    c.list-2.ensures c.list-3.ensures c.list-4.ensures
    (omega (arith, r.area_long, c.store.ensures.area_len_unchanged, t.ensures.area_len_unchanged, c.run.ensures.area_len_unchanged))
