-- What is proved of the program's answer. The proofs are in proofs/Theorems.antt.
-- Assumes nothing.
use Rattle.std.specs.Prelude.{◌↔◌, List, ℕ, ◌^◌, ◌≤◌, ◌<◌, length, take, get_or}
use Rattle.analyser.specs.Told.{Told}
use Rattle.output.specs.Lines.{line_at}
use Rattle.program.specs.Program.{ProgramMeans, largest_input}

-- every line of an answer fits 32 bytes, where the rows are numbers of 64 bits
abbrev pub LinesFit : Type 0
LinesFit = (input before after : List ℕ) (t : Told) (n : ℕ) → ProgramMeans input before after t n → ((k : ℕ) → get_or after k 0 < 2 ^ 64)
    → (i : ℕ) → length (line_at t n after i) ≤ 32

-- of an input, more bytes than a question and the largest file have decide: what is behind them changes no answer
abbrev pub FrontIsEnough : Type 0
FrontIsEnough = (input before after : List ℕ) (t : Told) (n k : ℕ) → largest_input < k
    → ProgramMeans (take k input) before after t n ↔ ProgramMeans input before after t n
