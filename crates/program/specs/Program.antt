-- What the program answers to an input [01:Counter file, "The program reads question and file from standard input (fewer than 3 bytes: number 1)"].
-- Assumes nothing.
use Rattle.std.specs.Prelude.{◌≡◌, List, [], ◌∷◌, ℕ, ◌+◌}
use Rattle.rules.specs.Claims.{largest_file}
use Rattle.analyser.specs.Told.{Told, refused}
use Rattle.analyser.specs.Means.{Means}

-- an input that is too short for a question gets 1 and no rows, and those that were lent are as they were
unfoldable pub TooShort : List ℕ → List ℕ → Told → ℕ → Type 0
TooShort before after t n = (t ≡ refused 1) × (n ≡ 0) × (after ≡ before)

-- the answer t to an input and the first n of the rows `after`, where `before` were lent: the first three bytes are the question, the rest is the file
unfoldable pub ProgramMeans : List ℕ → List ℕ → List ℕ → Told → ℕ → Type 0
ProgramMeans [] before after t n = TooShort before after t n
ProgramMeans (a ∷ []) before after t n = TooShort before after t n
ProgramMeans (a ∷ b ∷ []) before after t n = TooShort before after t n
ProgramMeans (a ∷ b ∷ c ∷ file) before after t n = Means file (a ∷ b ∷ c ∷ []) before after t n

-- the bytes of a question and of the largest file
abbrev pub largest_input : ℕ
largest_input = 3 + largest_file
