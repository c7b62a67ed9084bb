-- `output::line_of` meets its contract: the verdict's line, or that of a row.
use mathlib.Core.Path.{◌≡◌, sym, ap, ◌∙◌}
use mathlib.Core.List.{List}
use Prim.Native.Nat.{ℕ, min}
use lib.ListN.{length}
use Rattle.analyser.specs.Told.{told_in, rows_of}
use Rattle.output.specs.Lines.{row_line, line_at}
use Rattle.output.specs.Put.{over}
use Rattle.output.proofs.Laws.{line_at-row}
use Rattle.output.proofs.line_of.Goals as goal

pub returns-then-i-eq0 : goal.returns-then-i-eq0
unfolding line_at
returns-then-i-eq0 g c =
    let y = c.verdict_line in
    let e = c.if-i-eq0.true in record { value = simp e y.ensures.value; out_after = simp e y.ensures.out_after }

pub returns : goal.returns
returns g c =
    let y = c.row_line in
    let x = c.get_or in
    let p = c.args in
    let t = told_in g.E.Numbered.numbered p.answered in
    let n = rows_of p.answered in
    let e : row_line x.result ≡ line_at t n p.rows.now p.i
    = ap row_line x.ensures ∙ sym (line_at-row t n p.rows.now p.i c.if-i-eq0.false)
    in record { value = y.ensures.value ∙ ap (λ (l : List ℕ). min (length l) (length p.out.now)) e; out_after = y.ensures.out_after ∙ ap (λ (l : List ℕ). over l p.out.now) e }
