-- `program::answer_of` meets its contract: an input that is too short, or a question and a file.
use mathlib.Core.Path.{◌≡◌, refl, subst}
use mathlib.Core.List.{List}
use Prim.Native.Nat.{ℕ, ◌-◌, ◌≤◌}
use native.Mathlib.Omega.{arith}
use lib.ListN.{length, take, drop, length-drop}
use lib.Seq.{take_all}
use Rattle.analyser.specs.Told.{refused, told_in, told_of, rows_of}
use Rattle.analyser.specs.Means.{Means}
use Rattle.refusal.specs.Number.{number_of}
use Rattle.program.specs.Program.{TooShort}
use Rattle.program.proofs.Laws.{short-means, long-means}
use Rattle.program.proofs.answer_of.Goals as goal

pub returns-then-input-lt-BYTES : goal.returns-then-input-lt-BYTES
unfolding told_in refused TooShort number_of
returns-then-input-lt-BYTES c =
    let a = c.args in
    short-means a.rows.now a.rows.now (refused 1) 0 a.input.now (omega arith) (refl, refl, refl)

pub returns : goal.returns
returns c =
    let a = c.args in
    let y = c.analyse in
    let x = y.result in
    let input = a.input.now in
    let t = told_of x in
    let h : 3 ≤ length input = omega arith in
    let all : take (length input - 3) (drop 3 input) ≡ drop 3 input = take_all (length input - 3) (drop 3 input) (omega (arith, length-drop 3 input)) in
    long-means a.rows.now y.new.rows t (rows_of x) input h
    (subst (λ (l : List ℕ). Means l (take 3 input) a.rows.now y.new.rows t (rows_of x)) all y.ensures)
