-- What the program prints of an answer and its rows, as ASCII codes [01:Counter file, "prints `SAFE sessions items`, or `LEAK rows sessions items`
-- and a line `kind actor target value` per row, or `REFUSED number`"].
-- Assumes nothing.
use Rattle.std.specs.Prelude.{cond, List, [], ◌∷◌, ◌++◌, ℕ, zero, suc, ◌+◌, ◌/◌, ◌%◌, ltb, eqb, get_or}
use Rattle.cells.specs.Row.{parts_of}
use Rattle.analyser.specs.Told.{Told, no_verdict, safe_verdict}

-- the decimal digits of n, no more than the first argument says, the first of them not 0 unless n is 0
unfoldable pub numeral_in : ℕ → ℕ → List ℕ
numeral_in zero n = []
numeral_in (suc k) n = cond (ltb n 10) ((48 + n) ∷ []) (numeral_in k (n / 10) ++ ((48 + n % 10) ∷ []))

-- the decimal digits of a number below 10 ^ 20
unfoldable pub numeral : ℕ → List ℕ
numeral n = numeral_in 20 n

-- SAFE
unfoldable pub safe_word : List ℕ
safe_word = 83 ∷ 65 ∷ 70 ∷ 69 ∷ []

-- LEAK
unfoldable pub leak_word : List ℕ
leak_word = 76 ∷ 69 ∷ 65 ∷ 75 ∷ []

-- REFUSED
unfoldable pub refused_word : List ℕ
refused_word = 82 ∷ 69 ∷ 70 ∷ 85 ∷ 83 ∷ 69 ∷ 68 ∷ []

-- words with a space between two of them, and a newline at the end
unfoldable pub line : List (List ℕ) → List ℕ
line [] = 10 ∷ []
line (w ∷ []) = w ++ (10 ∷ [])
line (w ∷ v ∷ ws) = w ++ (32 ∷ line (v ∷ ws))

-- of an answer with n rows
unfoldable pub verdict_line : Told → ℕ → List ℕ
verdict_line t n =
    cond (eqb t.verdict no_verdict) (line (refused_word ∷ numeral t.number ∷ []))
    (cond (eqb t.verdict safe_verdict) (line (safe_word ∷ numeral t.pairs ∷ numeral t.values ∷ []))
    (line (leak_word ∷ numeral n ∷ numeral t.pairs ∷ numeral t.values ∷ [])))

-- of a row
unfoldable pub row_line : ℕ → List ℕ
row_line x =
    let r = parts_of x in
    line (numeral r.kind ∷ numeral r.actor ∷ numeral r.target ∷ numeral r.value ∷ [])

-- line 0 is the verdict's, line i + 1 that of row i
unfoldable pub line_at : Told → ℕ → List ℕ → ℕ → List ℕ
line_at t n rows zero = verdict_line t n
line_at t n rows (suc i) = row_line (get_or rows i 0)
