-- `rules::read_end` meets its contract: the parts, the filling bits and the end are the file's format.
use mathlib.Core.Path.{sym, ◌∙◌}
use mathlib.Core.Bool.{true, false}
use Rattle.std.proofs.lemmas.Result.{err_from_is_err_and}
use Rattle.refusal.specs.Number.{number_of}
use Rattle.format.specs.Format.{tested}
use Rattle.format.proofs.Chain.{file-stops, file-unfilled, file-ends}
use Rattle.policy.specs.File.{policy_format}
use Rattle.rules.proofs.read_end.Goals as goal

pub returns-in_err-read : goal.returns-in_err-read
returns-in_err-read c =
    let p = err_from_is_err_and c.from_residual.result c.from_residual.ensures.1 in rw (p.1, p.2) (file-stops policy_format c.args.reader.now (rw c.in_err-read.was at c.requires.read))

pub returns-in_err-field : goal.returns-in_err-field
unfolding number_of
returns-in_err-field c =
    let r = c.from_residual-in_err-field in
    let p = err_from_is_err_and r.result r.ensures.1 in
    let fill = rw c.position.ensures at c.in_err-field.ensures.reads in rw (p.1, p.2) (file-unfilled policy_format c.args.reader.now (rw c.in_ok-read.was at c.requires.read) fill)

pub returns-then-not-at_end : goal.returns-then-not-at_end
unfolding number_of tested
returns-then-not-at_end c =
    let fill = rw c.position.ensures at c.in_ok-field.ensures.reads in
    file-ends policy_format c.args.reader.now (rw c.in_ok-read.was at c.requires.read) false fill (sym c.if-not-at_end.true ∙ c.at_end.ensures)

pub returns : goal.returns
unfolding number_of tested
returns c =
    let fill = rw c.position.ensures at c.in_ok-field.ensures.reads in
    file-ends policy_format c.args.reader.now (rw c.in_ok-read.was at c.requires.read) true fill (sym c.if-not-at_end.false ∙ c.at_end.ensures)
