-- The claims of specs/Claims.antt.
-- Assumes nothing.
use mathlib.Core.List.{List}
use Prim.Native.Nat.{ℕ, zero, suc, ◌^◌, ◌<◌, ◌≤◌}
use lib.ListN.{length, get_or}
use Rattle.rules.specs.Claims.{largest_file}
use Rattle.rules.proofs.Theorems.{front-decides}
use Rattle.analyser.specs.Told.{Told}
use Rattle.analyser.proofs.Few.{Few}
use Rattle.output.specs.Lines.{line_at}
use Rattle.output.proofs.Lengths.{verdict_line-short, row_line-short}
use Rattle.program.specs.Claims.{LinesFit, FrontIsEnough}
use Rattle.program.proofs.Laws.{program-few, input-front}

line-fits : (t : Told) (n : ℕ) (after : List ℕ) → Few t n → ((k : ℕ) → get_or after k 0 < 2 ^ 64) → (i : ℕ) → length (line_at t n after i) ≤ 32
unfolding Few line_at
line-fits t n after few rows zero = verdict_line-short t n few.0 few.1 few.2
line-fits t n after few rows (suc i) = row_line-short (get_or after i 0) (rows i)

pub lines_fit : LinesFit
lines_fit input before after t n means rows i = line-fits t n after (program-few input before after t n means) rows i

pub front-is-enough : FrontIsEnough
front-is-enough = input-front largest_file front-decides.same
