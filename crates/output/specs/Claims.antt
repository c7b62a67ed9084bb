-- What is proved of the lines. The proofs are in proofs/Theorems.antt.
-- Assumes nothing.
use Rattle.std.specs.Prelude.{◌≡◌, ℕ, ◌^◌, ◌<◌, length}
use Rattle.output.specs.Digits.{last_digits, IsDigitCount}
use Rattle.output.specs.Lines.{numeral}

-- a numeral is the number's last digits in base 10, and as few as hold it
abbrev pub NumeralsAreDecimal : Type 0
NumeralsAreDecimal = (n : ℕ) → n < 2 ^ 64 → (numeral n ≡ last_digits 10 (length (numeral n)) n) × IsDigitCount 10 1 n (length (numeral n))
