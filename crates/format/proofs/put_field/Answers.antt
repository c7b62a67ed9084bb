-- `format::put_field` meets its contract: only a number that fits, and that its test holds of, is stored.
use mathlib.Core.Path.{sym, ◌∙◌}
use Rattle.format.proofs.Store.{field-stored, field-refused}
use Rattle.format.proofs.put_field.Goals as goal

pub returns-then-not-fits-clause-stores : goal.returns-then-not-fits-clause-stores
returns-then-not-fits-clause-stores g c =
    let a = c.args in field-refused g.E.Numbered.numbered a.w a.x a.holds a.refusal (rw c.fits.ensures at c.then-not-fits.either)

pub returns-clause-stores : goal.returns-clause-stores
returns-clause-stores g c =
    let a = c.args in
    field-stored g.E.Numbered.numbered a.w a.x a.holds _ (sym c.fits.ensures ∙ c.if-not-fits.false) c.if-not-holds.false c.put.ensures
