-- `reader_head::lists::read_class` meets its contract: the test of the width is the format's.
use native.Mathlib.Omega.{arith}
use borrow.Author.Tests.{le-leb, lt-leb}
use Rattle.refusal.specs.Number.{number_of}
use Rattle.format.proofs.Chain.{check-stops, check-holds, check-fails, refuses, refused}
use Rattle.policy.specs.File.{class_format}
use Rattle.reader_head.proofs.lists.read_class.Goals as goal

pub returns-in_err-class-clause-reads : goal.returns-in_err-class-clause-reads
unfolding class_format
returns-in_err-class-clause-reads c = refused _ c.from_residual.result c.from_residual.ensures.1 (check-stops _ _ _ c.in_err-class.ensures.reads) (omega arith)

pub returns-then-class_width-gt8-clause-reads : goal.returns-then-class_width-gt8-clause-reads
unfolding class_format number_of
returns-then-class_width-gt8-clause-reads c =
    refuses _ (check-fails _ _ _ c.in_ok-class.ensures.reads (lt-leb _ 8 (omega (arith, c.class_width.ensures.value)))) (omega arith)

pub returns-clause-reads : goal.returns-clause-reads
unfolding class_format
returns-clause-reads c = check-holds _ _ _ c.in_ok-class.ensures.reads (le-leb _ 8 (omega (arith, c.class_width.ensures.value)))
