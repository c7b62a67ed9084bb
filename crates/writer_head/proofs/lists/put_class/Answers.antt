-- `writer_head::lists::put_class` meets its contract: the attributes, then the check on their width.
use borrow.Author.Tests.{le-leb, lt-leb}
use native.Mathlib.Omega.{arith}
use Rattle.format.proofs.Store.{stores-check, check-fails, before_check, stores-given}
use Rattle.policy.specs.File.{class_format}
use Rattle.refusal.specs.Number.{number_of}
use Rattle.refusal.specs.declared.Refusal.{Refusal}
use Rattle.writer_head.proofs.lists.put_class.Goals as goal

pub returns-in_err-next-clause-stores : goal.returns-in_err-next-clause-stores
unfolding class_format
returns-in_err-next-clause-stores c = stores-given c.from_residual.ensures.1 (before_check _ _ 5 c.in_err-next.ensures.stores)

pub returns-then-class_width-le8-clause-stores : goal.returns-then-class_width-le8-clause-stores
unfolding class_format
returns-then-class_width-le8-clause-stores c = stores-check _ _ 5 c.in_ok-next.ensures.stores (rw (← c.class_width.ensures.value) (le-leb _ 8 c.if-class_width-le8.true))

pub returns-else-class_width-le8-clause-stores : goal.returns-else-class_width-le8-clause-stores
unfolding class_format number_of
returns-else-class_width-le8-clause-stores c =
    check-fails _ _ Refusal.Width c.in_ok-next.ensures.stores (rw (← c.class_width.ensures.value) (lt-leb _ 8 (omega (arith, c.if-class_width-le8.false))))
