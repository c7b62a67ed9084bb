-- `format::file_reader::FileReader::field` meets its contract: the test of what was taken is the field's.
use mathlib.Core.Path.{sym, ◌∙◌}
use Rattle.format.proofs.Chain.{numbered-stops, numbered-holds, numbered-fails, within-range}
use Rattle.format.proofs.file_reader.FileReader.field.Goals as goal

pub returns-in-Err-clause-reads : goal.returns-in-Err-clause-reads
returns-in-Err-clause-reads g c = numbered-stops g.E.Numbered.numbered _ _ _ _ c.of.ensures c.in-Err.ensures.reads

pub returns-then-not-contains-clause-reads : goal.returns-then-not-contains-clause-reads
returns-then-not-contains-clause-reads g c =
    let a = c.args in
    numbered-fails g.E.Numbered.numbered _ _ a.refusal c.in-Ok.ensures.reads (sym (within-range a.lo a.end _) ∙ sym c.contains.ensures.value ∙ c.if-not-contains.true)

pub returns-clause-reads : goal.returns-clause-reads
returns-clause-reads g c =
    let a = c.args in
    numbered-holds g.E.Numbered.numbered _ _ _ c.in-Ok.ensures.reads (sym (within-range a.lo a.end _) ∙ sym c.contains.ensures.value ∙ c.if-not-contains.false)
