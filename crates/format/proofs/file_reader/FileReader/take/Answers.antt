-- `format::file_reader::FileReader::take` meets its contract: where its reader of bits goes on, so does the count; else all bits are taken.
use mathlib.Core.Path.{sym, ap, ◌∙◌}
use native.Mathlib.Omega.{arith}
use Rattle.refusal.specs.Number.{number_of}
use Rattle.format.specs.Format.{ok, bad}
use Rattle.format.proofs.Chain.{any-is}
use Rattle.format.proofs.Reader.{goes_on, stays, same_source}
use Rattle.format.proofs.file_reader.FileReader.take.Goals as goal

pub invariant_of-self : goal.invariant_of-self
invariant_of-self c =
    let f = c.take-found.ensures in
    let g = goes_on _ _ _ _ f c.in-Some.x c.in-Some.is in
    record { count_is_place = omega arith; inside = rw (same_source _ _ _ _ f) (omega arith) }

pub overflow_mul-end : goal.overflow_mul-end
overflow_mul-end c = let f = c.take-found.ensures in let g = stays _ _ _ _ f c.in-None.is in rw (same_source _ _ _ _ f) (omega arith)

pub overflow_sub-self : goal.overflow_sub-self
overflow_sub-self c = let f = c.take-found.ensures in let g = stays _ _ _ _ f c.in-None.is in rw (same_source _ _ _ _ f) (omega arith)

pub overflow_add-self-in-None : goal.overflow_add-self-in-None
overflow_add-self-in-None c = let f = c.take-found.ensures in let g = stays _ _ _ _ f c.in-None.is in rw (same_source _ _ _ _ f) (omega arith)

pub invariant_of-self-in-None : goal.invariant_of-self-in-None
invariant_of-self-in-None c =
    let f = c.take-found.ensures in
    let g = stays _ _ _ _ f c.in-None.is in
    record { count_is_place = rw (same_source _ _ _ _ f) (omega arith); inside = omega arith }

pub returns-in-Some : goal.returns-in-Some
returns-in-Some c =
    let a = c.args in
    let f = c.take-found.ensures in
    let g = goes_on _ _ _ _ f c.in-Some.x c.in-Some.is in
    record { reads = record { answer = ap (ok c.in-Some.x) g.3 ∙ sym (any-is a.w a.self.now.bits.src.now a.self.now.bits.at ∙ g.0); source = same_source _ _ _ _ f; near = omega arith }; fits = g.1 }

pub returns-in-None : goal.returns-in-None
unfolding number_of
returns-in-None c =
    let a = c.args in
    let f = c.take-found.ensures in
    let g = stays _ _ _ _ f c.in-None.is in
    record {
      reads = record { answer = rw (same_source _ _ _ _ f) (ap (bad 1) (omega arith) ∙ sym (any-is a.w a.self.now.bits.src.now a.self.now.bits.at ∙ g.0)); source = same_source _ _ _ _ f; near = rw (same_source _ _ _ _ f) (omega arith) };
      fits = tt;
    }
