-- `reader::values::read_session` meets its contract: the user and the value one after the other are the format's.
use mathlib.Core.Path.{refl}
use native.Mathlib.Omega.{arith}
use Rattle.refusal.specs.Number.{number_of}
use Rattle.format.proofs.Chain.{pair-stops, pair-goes, via-reads, refused, shown}
use Rattle.policy.specs.File.{session_format}
use Rattle.reader.proofs.values.read_session.Goals as goal

pub returns-in_err-user : goal.returns-in_err-user
unfolding session_format number_of
returns-in_err-user c = record { reads = refused _ c.from_residual.result c.from_residual.ensures.1 (via-reads _ _ _ (pair-stops _ _ c.in_err-user.ensures.reads)) (omega arith) }

pub returns-in_err-value : goal.returns-in_err-value
unfolding session_format number_of
returns-in_err-value c =
    let r = c.from_residual-in_err-value in record { reads = refused _ r.result r.ensures.1 (via-reads _ _ _ (pair-goes _ _ c.in_ok-user.ensures.reads c.in_err-value.ensures.reads)) (omega arith) }

pub returns : goal.returns
unfolding session_format number_of
returns c = record { reads = shown _ _ (via-reads _ _ _ (pair-goes _ _ c.in_ok-user.ensures.reads c.in_ok-value.ensures.reads)) refl (omega arith) }
