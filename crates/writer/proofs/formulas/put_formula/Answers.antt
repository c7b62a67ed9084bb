-- `writer::formulas::put_formula` meets its contract: the count of nodes, which is the length of their list, then the nodes.
use Rattle.format.proofs.Store.{stores-pair, stores-first, stores-via, stores-given}
use Rattle.policy.specs.File.{formula_format}
use Rattle.policy.specs.Rules.{nodes_of}
use Rattle.policy.proofs.Laws.{nodes-length}
use Rattle.refusal.specs.Number.{number_of}
use Rattle.writer.proofs.formulas.put_formula.Goals as goal

pub returns-in_err-at-clause-stores : goal.returns-in_err-at-clause-stores
unfolding formula_format number_of
returns-in_err-at-clause-stores c =
    let a = c.args in
    stores-given c.from_residual.ensures.1
    (stores-via _ _ _ (nodes_of a.nodes.now a.f a.n) (rw (nodes-length a.nodes.now a.f a.n) (stores-first _ _ c.in_err-at.ensures.stores)))

pub returns-clause-stores : goal.returns-clause-stores
unfolding formula_format number_of
returns-clause-stores c =
    let a = c.args in
    stores-via _ _ _ (nodes_of a.nodes.now a.f a.n) (rw (nodes-length a.nodes.now a.f a.n) (stores-pair _ _ c.in_ok-at.ensures.stores c.put_nodes.ensures.stores))
