-- What an answer is without its rows, and what the program's answer stands for [01:The question; How each place should look].
-- Assumes nothing.
use Rattle.std.specs.Prelude.{ℕ, Result, Ok, Err}
use Rattle.refusal.specs.declared.Refusal.{Refusal}
use Rattle.refusal.specs.Number.{number_of}
use Rattle.analyser.specs.declared.Answer.{Answer}
use Rattle.analyser.specs.declared.Verdict.{Verdict}

-- verdicts as values: none, where a number is given; safe; leak
abbrev pub no_verdict : ℕ
no_verdict = 0

abbrev pub safe_verdict : ℕ
safe_verdict = 1

abbrev pub leak_verdict : ℕ
leak_verdict = 2

-- the answer without the rows: the number that is given, 0 for none; the verdict; both counts
pub record Told : Type 0 where
  pub number : ℕ
  pub verdict : ℕ
  pub pairs : ℕ
  pub values : ℕ

-- a number is given, and the counts are 0
unfoldable pub refused : ℕ → Told
refused n = record { number = n; verdict = no_verdict; pairs = 0; values = 0 }

-- the value of a verdict
unfoldable pub value_of : Verdict → ℕ
value_of Verdict.Safe = safe_verdict
value_of Verdict.Leak = leak_verdict

-- [01:How each place should look, "Where an answer is an enum"]: what the program's answer stands for, by the number that each refusal has
unfoldable pub told_in : {E : Type 0} → (E → ℕ) → Result Answer E → Told
told_in numbered (Ok a) = record { number = 0; verdict = value_of a.verdict; pairs = a.pairs; values = a.values }
told_in numbered (Err refusal) = refused (numbered refusal)

-- the same by the papers' numbers
abbrev pub told_of : Result Answer Refusal → Told
told_of = told_in number_of

-- how many rows the answer has: none, where a number is given
abbrev pub rows_of : {E : Type 0} → Result Answer E → ℕ
rows_of (Ok a) = a.rows
rows_of (Err refusal) = 0
