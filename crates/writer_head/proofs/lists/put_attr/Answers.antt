-- `writer_head::lists::put_attr` meets its contract: the kind, the size, which the kind bounds, the list number, which was judged by what
-- `size_fits` says of it, and the zero bit, each stored after the one before it.
use Rattle.format.proofs.Store.{stores-pair, stores-first, stores-via, stores-field, stores-zeros, stores-before_zeros, stores-given}
use Rattle.policy.specs.File.{size_fits, attr_format}
use Rattle.policy.specs.Rules.{as_attr}
use Rattle.refusal.specs.Number.{number_of}
use Rattle.writer_head.proofs.lists.put_attr.Goals as goal

pub returns-in_err-at-clause-stores : goal.returns-in_err-at-clause-stores
unfolding attr_format number_of
returns-in_err-at-clause-stores c =
    let a = c.args in
    stores-given c.from_residual.ensures.1
    (stores-via _ _ _ (as_attr a.attribute) (stores-before_zeros _ 1 3 (stores-first _ _ c.in_err-at.ensures.stores)))

pub returns-in_err-at-2-clause-stores : goal.returns-in_err-at-2-clause-stores
unfolding attr_format number_of
returns-in_err-at-2-clause-stores c =
    let a = c.args in
    stores-given c.from_residual-in_err-at-2.ensures.1
    (stores-via _ _ _ (as_attr a.attribute)
    (stores-before_zeros _ 1 3 (stores-pair _ _ c.in_ok-at.ensures.stores (stores-first _ _ (rw c.largest.ensures.value at c.in_err-at-2.ensures.stores)))))

pub returns-in_err-at-3-clause-stores : goal.returns-in_err-at-3-clause-stores
unfolding attr_format number_of
returns-in_err-at-3-clause-stores c =
    let a = c.args in
    stores-given c.from_residual-in_err-at-3.ensures.1
    (stores-via _ _ _ (as_attr a.attribute)
    (stores-before_zeros _ 1 3
    (stores-pair _ _ c.in_ok-at.ensures.stores
    (stores-pair _ _ (rw c.largest.ensures.value at c.in_ok-at-2.ensures.stores)
    (stores-field 5 (size_fits a.known.now a.attribute.size) 18 a.attribute.list c.size_fits.ensures c.in_err-at-3.ensures.stores)))))

pub returns-clause-stores : goal.returns-clause-stores
unfolding attr_format number_of
returns-clause-stores c =
    let a = c.args in
    stores-via _ _ _ (as_attr a.attribute)
    (stores-zeros _ 1 3
    (stores-pair _ _ c.in_ok-at.ensures.stores
    (stores-pair _ _ (rw c.largest.ensures.value at c.in_ok-at-2.ensures.stores)
    (stores-field 5 (size_fits a.known.now a.attribute.size) 18 a.attribute.list c.size_fits.ensures c.in_ok-at-3.ensures.stores)))
    c.put_field-2.ensures.stores)
