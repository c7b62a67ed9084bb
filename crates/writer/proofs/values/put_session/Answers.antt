-- `writer::values::put_session` meets its contract: the user, then the value.
use Rattle.format.proofs.Store.{stores-pair, stores-first, stores-via, stores-given}
use Rattle.policy.specs.File.{session_format}
use Rattle.policy.specs.Rules.{as_session}
use Rattle.refusal.specs.Number.{number_of}
use Rattle.writer.proofs.values.put_session.Goals as goal

pub returns-in_err-at-clause-stores : goal.returns-in_err-at-clause-stores
unfolding session_format number_of
returns-in_err-at-clause-stores c =
    let a = c.args in
    stores-given c.from_residual.ensures.1 (stores-via _ _ _ (as_session a.session) (stores-first _ _ c.in_err-at.ensures.stores))

pub returns-clause-stores : goal.returns-clause-stores
unfolding session_format number_of
returns-clause-stores c =
    let a = c.args in
    stores-via _ _ _ (as_session a.session) (stores-pair _ _ c.in_ok-at.ensures.stores c.put_value.ensures.stores)
