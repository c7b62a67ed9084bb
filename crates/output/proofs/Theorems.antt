-- The claims of specs/Claims.antt, and worked examples.
-- Assumes nothing.
use mathlib.Core.Path.{◌≡◌, refl}
use mathlib.Core.List.{[], ◌∷◌}
use lib.ListN.{length}
use Prim.Native.Nat.{◌+◌, ◌*◌, ◌^◌}
use Rattle.cells.specs.Row.{parts_of}
use Rattle.analyser.specs.Told.{Told, refused, safe_verdict, leak_verdict}
use Rattle.output.specs.Lines.{numeral_in, numeral, safe_word, leak_word, refused_word, line, verdict_line, row_line, line_at}
use Rattle.output.specs.Claims.{NumeralsAreDecimal}
use Rattle.output.proofs.Laws.{numeral-digits, numeral-fewest}

pub numerals-are-decimal : NumeralsAreDecimal
numerals-are-decimal n h = (numeral-digits n (length (numeral n)) h (numeral-fewest n h), numeral-fewest n h)

-- ---- examples

safe-answer : Told
safe-answer = record { number = 0; verdict = safe_verdict; pairs = 3; values = 2 }

leak-answer : Told
leak-answer = record { number = 0; verdict = leak_verdict; pairs = 12; values = 256 }

-- `SAFE 3 2`
safe-example : line_at safe-answer 0 [] 0 ≡ 83 ∷ 65 ∷ 70 ∷ 69 ∷ 32 ∷ 51 ∷ 32 ∷ 50 ∷ 10 ∷ []
unfolding numeral_in numeral safe_word line verdict_line line_at safe-answer
safe-example = refl

-- `LEAK 10 12 256`
leak-example : line_at leak-answer 10 [] 0 ≡ 76 ∷ 69 ∷ 65 ∷ 75 ∷ 32 ∷ 49 ∷ 48 ∷ 32 ∷ 49 ∷ 50 ∷ 32 ∷ 50 ∷ 53 ∷ 54 ∷ 10 ∷ []
unfolding numeral_in numeral leak_word line verdict_line line_at leak-answer
leak-example = refl

-- `REFUSED 11`
refused-example : line_at (refused 11) 0 [] 0 ≡ 82 ∷ 69 ∷ 70 ∷ 85 ∷ 83 ∷ 69 ∷ 68 ∷ 32 ∷ 49 ∷ 49 ∷ 10 ∷ []
unfolding numeral_in numeral refused_word line verdict_line line_at refused
refused-example = refl

-- `1 0 65535 10`
row-example : line_at leak-answer 1 ((1 * 2 ^ 60 + 65535 * 2 ^ 20 + 10 * 2 ^ 8) ∷ []) 1 ≡ 49 ∷ 32 ∷ 48 ∷ 32 ∷ 54 ∷ 53 ∷ 53 ∷ 51 ∷ 53 ∷ 32 ∷ 49 ∷ 48 ∷ 10 ∷ []
unfolding numeral_in numeral line row_line line_at parts_of
row-example = refl
