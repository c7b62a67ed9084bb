-- `writer::put_policy` meets its contract: the parts of the file, each stored after the one before it.
use Rattle.format.proofs.Store.{stores-pair, stores-first, stores-via, stores-given}
use Rattle.policy.specs.File.{lists_format, policy_format}
use Rattle.policy.specs.Rules.{lists_of, policy_of}
use Rattle.writer_head.specs.Parts.{head_of, head_for}
use Rattle.writer.proofs.put_policy.Goals as goal

pub returns-in_err-at-clause-stores : goal.returns-in_err-at-clause-stores
unfolding policy_format lists_format policy_of lists_of head_of head_for
returns-in_err-at-clause-stores c = stores-given c.from_residual.ensures.1 (stores-via _ _ _ (policy_of c.args.rules) (stores-first _ _ c.in_err-at.ensures.stores))

pub returns-in_err-at-2-clause-stores : goal.returns-in_err-at-2-clause-stores
unfolding policy_format lists_format policy_of lists_of head_of head_for
returns-in_err-at-2-clause-stores c = stores-given c.from_residual-in_err-at-2.ensures.1 (stores-via _ _ _ (policy_of c.args.rules) (stores-pair _ _ c.in_ok-at.ensures.stores (stores-first _ _ c.in_err-at-2.ensures.stores)))

pub returns-in_err-at-3-clause-stores : goal.returns-in_err-at-3-clause-stores
unfolding policy_format lists_format policy_of lists_of head_of head_for
returns-in_err-at-3-clause-stores c = stores-given c.from_residual-in_err-at-3.ensures.1 (stores-via _ _ _ (policy_of c.args.rules) (stores-pair _ _ c.in_ok-at.ensures.stores (stores-pair _ _ c.in_ok-at-2.ensures.stores (stores-first _ _ c.in_err-at-3.ensures.stores))))

pub returns-in_err-at-4-clause-stores : goal.returns-in_err-at-4-clause-stores
unfolding policy_format lists_format policy_of lists_of head_of head_for
returns-in_err-at-4-clause-stores c = stores-given c.from_residual-in_err-at-4.ensures.1 (stores-via _ _ _ (policy_of c.args.rules) (stores-pair _ _ c.in_ok-at.ensures.stores (stores-pair _ _ c.in_ok-at-2.ensures.stores (stores-pair _ _ c.in_ok-at-3.ensures.stores (stores-first _ _ c.in_err-at-4.ensures.stores)))))

pub returns-in_err-at-5-clause-stores : goal.returns-in_err-at-5-clause-stores
unfolding policy_format lists_format policy_of lists_of head_of head_for
returns-in_err-at-5-clause-stores c = stores-given c.from_residual-in_err-at-5.ensures.1 (stores-via _ _ _ (policy_of c.args.rules) (stores-pair _ _ c.in_ok-at.ensures.stores (stores-pair _ _ c.in_ok-at-2.ensures.stores (stores-pair _ _ c.in_ok-at-3.ensures.stores (stores-pair _ _ c.in_ok-at-4.ensures.stores (stores-first _ _ c.in_err-at-5.ensures.stores))))))

pub returns-clause-stores : goal.returns-clause-stores
unfolding policy_format lists_format policy_of lists_of head_of head_for
returns-clause-stores c = stores-via _ _ _ (policy_of c.args.rules) (stores-pair _ _ c.in_ok-at.ensures.stores (stores-pair _ _ c.in_ok-at-2.ensures.stores (stores-pair _ _ c.in_ok-at-3.ensures.stores (stores-pair _ _ c.in_ok-at-4.ensures.stores (stores-pair _ _ c.in_ok-at-5.ensures.stores c.put_formulas.ensures.stores)))))
