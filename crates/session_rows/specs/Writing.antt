-- The rows of a leak so far, the next session number, and the sessions that stand open: of each session value one that has it, if there is one.
-- Private vocabulary: nothing here has to be believed.
-- Assumes nothing.
use Rattle.std.specs.Prelude.{◌≡◌, cond, List, ◌++◌, ℕ, ◌+◌, ◌≤◌, leb, length, take, drop, set}
use Rattle.cells.specs.Row.{bits_of}
use Rattle.session_rows.specs.declared.Pen.{Pen}

pub record Writing : Type 0 where
  pub rows : List ℕ
  pub next : ℕ
  -- of a session value: the number plus 1 of a session that stands open with it, or 0; and its user
  pub number : List ℕ
  pub owner : List ℕ

-- what a pen has written on lent rows
abbrev pub writing_of : Pen → List ℕ → Writing
writing_of p rows = record { rows = take p.at rows; next = p.next; number = p.number; owner = p.owner }

-- between two pens only rows from the one's end to the other's were written
pub record Wrote (p : Pen) (before : List ℕ) (q : Pen) (after : List ℕ) : Type 0 where
  pub long : length after ≡ length before
  pub onward : p.at ≤ q.at
  pub inside : q.at ≤ length after
  pub rest : drop q.at after ≡ drop q.at before

-- the row of a step
unfoldable pub row_of : ℕ → ℕ → ℕ → ℕ → ℕ
row_of kind actor target value = bits_of record { kind = kind; actor = actor; target = target; value = value; spare = 0 }

-- rows at the end: all of them, or none where they have no room
unfoldable pub wrote : ℕ → List ℕ → Writing → Writing
wrote room l w = cond (leb (length w.rows + length l) room) record { rows = w.rows ++ l; next = w.next; number = w.number; owner = w.owner } w

-- the next number is a session of user u that stands open with value v
unfoldable pub stood : ℕ → ℕ → Writing → Writing
stood u v w = record { rows = w.rows; next = w.next + 1; number = set w.number v (w.next + 1); owner = set w.owner v u }
