-- `reader_head::head::read_counts` meets its contract: the counts and the spare bits one after another are the format's.
use mathlib.Core.Path.{refl}
use native.Mathlib.Omega.{arith}
use Rattle.format.proofs.Chain.{pair-stops, pair-goes, via-reads, zeros-stops, zeros-goes, refused, shown}
use Rattle.refusal.specs.Number.{number_of}
use Rattle.policy.specs.File.{count, head_format}
use Rattle.reader_head.specs.Parts.{head_of}
use Rattle.reader_head.proofs.head.read_counts.Goals as goal

pub returns-in_err-user : goal.returns-in_err-user
unfolding head_format count number_of
returns-in_err-user c = record { reads = refused _ c.from_residual.result c.from_residual.ensures.1 (via-reads _ _ _ (zeros-stops _ _ _ (pair-stops _ _ c.in_err-user.ensures.reads))) (omega arith) }

pub returns-in_err-session : goal.returns-in_err-session
unfolding head_format count number_of
returns-in_err-session c = record { reads = refused _ c.from_residual-in_err-session.result c.from_residual-in_err-session.ensures.1 (via-reads _ _ _ (zeros-stops _ _ _ (pair-goes _ _ c.in_ok-user.ensures.reads (pair-stops _ _ c.in_err-session.ensures.reads)))) (omega arith) }

pub returns-in_err-item : goal.returns-in_err-item
unfolding head_format count number_of
returns-in_err-item c = record { reads = refused _ c.from_residual-in_err-item.result c.from_residual-in_err-item.ensures.1 (via-reads _ _ _ (zeros-stops _ _ _ (pair-goes _ _ c.in_ok-user.ensures.reads (pair-goes _ _ c.in_ok-session.ensures.reads (pair-stops _ _ c.in_err-item.ensures.reads))))) (omega arith) }

pub returns-in_err-users : goal.returns-in_err-users
unfolding head_format count number_of
returns-in_err-users c = record { reads = refused _ c.from_residual-in_err-users.result c.from_residual-in_err-users.ensures.1 (via-reads _ _ _ (zeros-stops _ _ _ (pair-goes _ _ c.in_ok-user.ensures.reads (pair-goes _ _ c.in_ok-session.ensures.reads (pair-goes _ _ c.in_ok-item.ensures.reads (pair-stops _ _ c.in_err-users.ensures.reads)))))) (omega arith) }

pub returns-in_err-sessions : goal.returns-in_err-sessions
unfolding head_format count number_of
returns-in_err-sessions c = record { reads = refused _ c.from_residual-in_err-sessions.result c.from_residual-in_err-sessions.ensures.1 (via-reads _ _ _ (zeros-stops _ _ _ (pair-goes _ _ c.in_ok-user.ensures.reads (pair-goes _ _ c.in_ok-session.ensures.reads (pair-goes _ _ c.in_ok-item.ensures.reads (pair-goes _ _ c.in_ok-users.ensures.reads (pair-stops _ _ c.in_err-sessions.ensures.reads))))))) (omega arith) }

pub returns-in_err-items : goal.returns-in_err-items
unfolding head_format count number_of
returns-in_err-items c = record { reads = refused _ c.from_residual-in_err-items.result c.from_residual-in_err-items.ensures.1 (via-reads _ _ _ (zeros-stops _ _ _ (pair-goes _ _ c.in_ok-user.ensures.reads (pair-goes _ _ c.in_ok-session.ensures.reads (pair-goes _ _ c.in_ok-item.ensures.reads (pair-goes _ _ c.in_ok-users.ensures.reads (pair-goes _ _ c.in_ok-sessions.ensures.reads (pair-stops _ _ c.in_err-items.ensures.reads)))))))) (omega arith) }

pub returns-in_err-permissions : goal.returns-in_err-permissions
unfolding head_format count number_of
returns-in_err-permissions c = record { reads = refused _ c.from_residual-in_err-permissions.result c.from_residual-in_err-permissions.ensures.1 (via-reads _ _ _ (zeros-stops _ _ _ (pair-goes _ _ c.in_ok-user.ensures.reads (pair-goes _ _ c.in_ok-session.ensures.reads (pair-goes _ _ c.in_ok-item.ensures.reads (pair-goes _ _ c.in_ok-users.ensures.reads (pair-goes _ _ c.in_ok-sessions.ensures.reads (pair-goes _ _ c.in_ok-items.ensures.reads c.in_err-permissions.ensures.reads)))))))) (omega arith) }

pub returns-in_err-field : goal.returns-in_err-field
unfolding head_format count number_of
returns-in_err-field c = record { reads = refused _ c.from_residual-in_err-field.result c.from_residual-in_err-field.ensures.1 (via-reads _ _ _ (zeros-goes _ _ _ (pair-goes _ _ c.in_ok-user.ensures.reads (pair-goes _ _ c.in_ok-session.ensures.reads (pair-goes _ _ c.in_ok-item.ensures.reads (pair-goes _ _ c.in_ok-users.ensures.reads (pair-goes _ _ c.in_ok-sessions.ensures.reads (pair-goes _ _ c.in_ok-items.ensures.reads c.in_ok-permissions.ensures.reads)))))) c.in_err-field.ensures.reads)) (omega arith) }

pub returns : goal.returns
unfolding head_format count number_of head_of
returns c = record { reads = shown _ _ (via-reads _ _ _ (zeros-goes _ _ _ (pair-goes _ _ c.in_ok-user.ensures.reads (pair-goes _ _ c.in_ok-session.ensures.reads (pair-goes _ _ c.in_ok-item.ensures.reads (pair-goes _ _ c.in_ok-users.ensures.reads (pair-goes _ _ c.in_ok-sessions.ensures.reads (pair-goes _ _ c.in_ok-items.ensures.reads c.in_ok-permissions.ensures.reads)))))) c.in_ok-field.ensures.reads)) refl (omega arith) }
