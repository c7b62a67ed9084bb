-- `reader_head::lists::read_classes` meets its contract: the sizes of the lists go on from class to class.
use mathlib.Core.Path.{refl}
use native.Mathlib.Omega.{arith}
use Rattle.format.proofs.Chain.{pair-stops, pair-goes, via-reads, refused, shown}
use Rattle.policy.specs.File.{no_sizes, lists_format}
use Rattle.policy.specs.Rules.{lists_of}
use Rattle.reader_head.specs.Parts.{head_of}
use Rattle.reader_head.proofs.lists.read_classes.Goals as goal

pub returns-in_err-user-clause-reads : goal.returns-in_err-user-clause-reads
unfolding lists_format head_of no_sizes
returns-in_err-user-clause-reads c =
    refused _ c.from_residual.result c.from_residual.ensures.1 (via-reads _ _ _ (pair-stops _ _ c.in_err-user.ensures.reads)) (omega arith)

pub returns-in_err-session-clause-reads : goal.returns-in_err-session-clause-reads
unfolding lists_format head_of no_sizes
returns-in_err-session-clause-reads c =
    let session = rw c.in_ok-user.ensures.known_after at c.in_err-session.ensures.reads in
    let r = c.from_residual-in_err-session in refused _ r.result r.ensures.1 (via-reads _ _ _ (pair-goes _ _ c.in_ok-user.ensures.reads (pair-stops _ _ session))) (omega arith)

pub returns-in_err-item-clause-reads : goal.returns-in_err-item-clause-reads
unfolding lists_format head_of no_sizes
returns-in_err-item-clause-reads c =
    let session = rw c.in_ok-user.ensures.known_after at c.in_ok-session.ensures.reads in
    let item = rw (c.in_ok-session.ensures.known_after, c.in_ok-user.ensures.known_after) at c.in_err-item.ensures.reads in
    let r = c.from_residual-in_err-item in refused _ r.result r.ensures.1 (via-reads _ _ _ (pair-goes _ _ c.in_ok-user.ensures.reads (pair-goes _ _ session item))) (omega arith)

pub returns-clause-reads : goal.returns-clause-reads
unfolding lists_format head_of no_sizes lists_of
returns-clause-reads c =
    let session = rw c.in_ok-user.ensures.known_after at c.in_ok-session.ensures.reads in
    let item = rw (c.in_ok-session.ensures.known_after, c.in_ok-user.ensures.known_after) at c.in_ok-item.ensures.reads in
    shown _ _ (via-reads _ _ _ (pair-goes _ _ c.in_ok-user.ensures.reads (pair-goes _ _ session item))) refl (omega arith)
