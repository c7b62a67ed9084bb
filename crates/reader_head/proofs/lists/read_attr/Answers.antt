-- `reader_head::lists::read_attr` meets its contract: the four fields one after another are the format's.
use mathlib.Core.Path.{refl, sym, ◌∙◌}
use native.Mathlib.Omega.{arith}
use Rattle.refusal.specs.Number.{number_of}
use Rattle.format.proofs.Chain.{pair-stops, pair-goes, via-reads, zeros-stops, zeros-goes, field-stops, field-holds, field-fails, refuses, refused, shown}
use Rattle.policy.specs.File.{attr_format}
use Rattle.reader_head.proofs.lists.read_attr.Goals as goal

pub returns-in_err-kind : goal.returns-in_err-kind
unfolding attr_format number_of
returns-in_err-kind c = record { reads = refused _ c.from_residual.result c.from_residual.ensures.1 (via-reads _ _ _ (zeros-stops _ _ _ (pair-stops _ _ c.in_err-kind.ensures.reads))) (omega arith) }

pub returns-in_err-size : goal.returns-in_err-size
unfolding attr_format number_of
returns-in_err-size c =
    let size = rw c.largest.ensures.value at c.in_err-size.ensures.reads in
    let r = c.from_residual-in_err-size in record { reads = refused _ r.result r.ensures.1 (via-reads _ _ _ (zeros-stops _ _ _ (pair-goes _ _ c.in_ok-kind.ensures.reads (pair-stops _ _ size)))) (omega arith) }

pub returns-in_err-list : goal.returns-in_err-list
unfolding attr_format number_of
returns-in_err-list c =
    let size = rw c.largest.ensures.value at c.in_ok-size.ensures.reads in
    let r = c.from_residual-in_err-list in
    record { reads = refused _ r.result r.ensures.1 (via-reads _ _ _ (zeros-stops _ _ _ (pair-goes _ _ c.in_ok-kind.ensures.reads (pair-goes _ _ size (field-stops _ _ _ c.in_err-list.ensures.reads))))) (omega arith) }

pub returns-then-not-size_fits : goal.returns-then-not-size_fits
unfolding attr_format number_of
returns-then-not-size_fits c =
    let size = rw c.largest.ensures.value at c.in_ok-size.ensures.reads in
    let list = field-fails _ _ _ c.in_ok-list.ensures.reads (sym c.size_fits.ensures ∙ c.if-not-size_fits.true) in
    record { reads = refuses _ (via-reads _ _ _ (zeros-stops _ _ _ (pair-goes _ _ c.in_ok-kind.ensures.reads (pair-goes _ _ size list)))) (omega arith) }

pub returns-in_err-field : goal.returns-in_err-field
unfolding attr_format number_of
returns-in_err-field c =
    let size = rw c.largest.ensures.value at c.in_ok-size.ensures.reads in
    let list = field-holds _ _ _ c.in_ok-list.ensures.reads (sym c.size_fits.ensures ∙ c.if-not-size_fits.false) in
    let r = c.from_residual-in_err-field in
    record { reads = refused _ r.result r.ensures.1 (via-reads _ _ _ (zeros-goes _ _ _ (pair-goes _ _ c.in_ok-kind.ensures.reads (pair-goes _ _ size list)) c.in_err-field.ensures.reads)) (omega arith) }

pub returns : goal.returns
unfolding attr_format number_of
returns c =
    let size = rw c.largest.ensures.value at c.in_ok-size.ensures.reads in
    let list = field-holds _ _ _ c.in_ok-list.ensures.reads (sym c.size_fits.ensures ∙ c.if-not-size_fits.false) in
    record { reads = shown _ _ (via-reads _ _ _ (zeros-goes _ _ _ (pair-goes _ _ c.in_ok-kind.ensures.reads (pair-goes _ _ size list)) c.in_ok-field.ensures.reads)) refl (omega arith) }
