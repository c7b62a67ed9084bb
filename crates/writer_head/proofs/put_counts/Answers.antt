-- `writer_head::put_counts` meets its contract: the head is its seven counts and the zero bits, each stored after the one before it.
use Rattle.format.proofs.Store.{stores-pair, stores-first, stores-via, stores-zeros, stores-given}
use Rattle.policy.specs.File.{count, head_format}
use Rattle.refusal.specs.Number.{number_of}
use Rattle.writer_head.specs.Parts.{head_of}
use Rattle.writer_head.proofs.Head.{head-stops}
use Rattle.writer_head.proofs.put_counts.Goals as goal

pub returns-in_err-at-clause-stores : goal.returns-in_err-at-clause-stores
unfolding count head_of number_of
returns-in_err-at-clause-stores c = stores-given c.from_residual.ensures.1 (head-stops (head_of c.args.h) (stores-first _ _ c.in_err-at.ensures.stores))

pub returns-in_err-at-2-clause-stores : goal.returns-in_err-at-2-clause-stores
unfolding count head_of number_of
returns-in_err-at-2-clause-stores c = stores-given c.from_residual-in_err-at-2.ensures.1 (head-stops (head_of c.args.h) (stores-pair _ _ c.in_ok-at.ensures.stores (stores-first _ _ c.in_err-at-2.ensures.stores)))

pub returns-in_err-at-3-clause-stores : goal.returns-in_err-at-3-clause-stores
unfolding count head_of number_of
returns-in_err-at-3-clause-stores c = stores-given c.from_residual-in_err-at-3.ensures.1 (head-stops (head_of c.args.h) (stores-pair _ _ c.in_ok-at.ensures.stores (stores-pair _ _ c.in_ok-at-2.ensures.stores (stores-first _ _ c.in_err-at-3.ensures.stores))))

pub returns-in_err-at-4-clause-stores : goal.returns-in_err-at-4-clause-stores
unfolding count head_of number_of
returns-in_err-at-4-clause-stores c = stores-given c.from_residual-in_err-at-4.ensures.1 (head-stops (head_of c.args.h) (stores-pair _ _ c.in_ok-at.ensures.stores (stores-pair _ _ c.in_ok-at-2.ensures.stores (stores-pair _ _ c.in_ok-at-3.ensures.stores (stores-first _ _ c.in_err-at-4.ensures.stores)))))

pub returns-in_err-at-5-clause-stores : goal.returns-in_err-at-5-clause-stores
unfolding count head_of number_of
returns-in_err-at-5-clause-stores c = stores-given c.from_residual-in_err-at-5.ensures.1 (head-stops (head_of c.args.h) (stores-pair _ _ c.in_ok-at.ensures.stores (stores-pair _ _ c.in_ok-at-2.ensures.stores (stores-pair _ _ c.in_ok-at-3.ensures.stores (stores-pair _ _ c.in_ok-at-4.ensures.stores (stores-first _ _ c.in_err-at-5.ensures.stores))))))

pub returns-in_err-at-6-clause-stores : goal.returns-in_err-at-6-clause-stores
unfolding count head_of number_of
returns-in_err-at-6-clause-stores c = stores-given c.from_residual-in_err-at-6.ensures.1 (head-stops (head_of c.args.h) (stores-pair _ _ c.in_ok-at.ensures.stores (stores-pair _ _ c.in_ok-at-2.ensures.stores (stores-pair _ _ c.in_ok-at-3.ensures.stores (stores-pair _ _ c.in_ok-at-4.ensures.stores (stores-pair _ _ c.in_ok-at-5.ensures.stores (stores-first _ _ c.in_err-at-6.ensures.stores)))))))

pub returns-in_err-at-7-clause-stores : goal.returns-in_err-at-7-clause-stores
unfolding count head_of number_of
returns-in_err-at-7-clause-stores c = stores-given c.from_residual-in_err-at-7.ensures.1 (head-stops (head_of c.args.h) (stores-pair _ _ c.in_ok-at.ensures.stores (stores-pair _ _ c.in_ok-at-2.ensures.stores (stores-pair _ _ c.in_ok-at-3.ensures.stores (stores-pair _ _ c.in_ok-at-4.ensures.stores (stores-pair _ _ c.in_ok-at-5.ensures.stores (stores-pair _ _ c.in_ok-at-6.ensures.stores c.in_err-at-7.ensures.stores)))))))

pub returns-clause-stores : goal.returns-clause-stores
unfolding head_format count head_of number_of
returns-clause-stores c = stores-via _ _ _ (head_of c.args.h) (stores-zeros _ 7 3 (stores-pair _ _ c.in_ok-at.ensures.stores (stores-pair _ _ c.in_ok-at-2.ensures.stores (stores-pair _ _ c.in_ok-at-3.ensures.stores (stores-pair _ _ c.in_ok-at-4.ensures.stores (stores-pair _ _ c.in_ok-at-5.ensures.stores (stores-pair _ _ c.in_ok-at-6.ensures.stores c.in_ok-at-7.ensures.stores)))))) c.put_field.ensures.stores)
