-- What is lent to prepare formulas in: an area of words, large enough for every formula that is asked by b. What stands in it makes no difference.
-- Assumes nothing.
use Rattle.std.specs.Prelude.{List, ℕ, ◌+◌, ◌*◌, ◌≤◌, ◌<◌, length, get_or}
use Rattle.policy.specs.Rules.{lists_of}
use Rattle.prepared.specs.Prepared.{room_of}
use Rattle.allowed_rows.specs.declared.Basis.{Basis}

-- no formula has more nodes than a file's, and there is place for 193 rows and the tables of 64 comparisons, 4 words a row
pub record Scratch (b : Basis) (area : List ℕ) : Type 0 where
  pub nodes : (f : ℕ) → f < 4 + b.permissions → get_or b.lengths f 0 ≤ 64
  pub area-long : (h : ℕ) → 4 * (193 + 64 * room_of (lists_of b.classes) h) ≤ length area
