-- `formulas::table::fill_all` meets its contract: the places of one class's holders after another are filled in, then the constants.
use Rattle.formulas.proofs.TableLaws.{all-values, all-sizes}
use Rattle.formulas.proofs.table.fill_all.Goals as goal

pub returns : goal.returns
returns c =
    let a = c.args in record { values_after = all-values a.classes a.holders a.values.now _ _ _ _ c.requires.0 c.fill.ensures.filling c.fill-2.ensures.filling c.fill-3.ensures.filling c.constants.ensures; sizes_after = all-sizes a.classes a.sizes.now _ _ _ c.requires.1 c.fill.ensures.filling_2 c.fill-2.ensures.filling_2 c.fill-3.ensures.filling_2 }
