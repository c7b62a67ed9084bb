-- Enough cells and numbers for rows. In order: what a carried out step adds to the counts; what is enough for rows has room for the first and is
-- enough for the others; starting leaves what is enough for the rows of a leak.
use mathlib.Core.Path.{◌≡◌, refl, sym, ap}
use mathlib.Core.Bool.{Bool, true, false, cond}
use mathlib.Core.List.{List, [], ◌∷◌}
use mathlib.Core.Option.{none}
use Prim.Native.Nat.{ℕ, ◌+◌, ◌≤◌}
use native.Mathlib.Omega.{arith}
use borrow.Author.Tests.{eq-eqb}
use lib.Dec.{eqb}
use lib.ListN.{length, length-set, length-append}
use Rattle.policy.specs.Policy.{Policy}
use Rattle.rules.specs.Answers.{rules}
use Rattle.runs.specs.Model.{Model}
use Rattle.runs.specs.State.{State}
use Rattle.runs.specs.Step.{Step, Carried, opens, closes, changes, makes, modifies, grants}
use Rattle.cells.specs.Row.{parts_of, row_step}
use Rattle.cells.proofs.Rows.{step_is}
use Rattle.live.specs.Lent.{Lent, numbers}
use Rattle.live.proofs.Laws.{is-left}
use Rattle.steps.specs.Codes.{Codes, Room}
use Rattle.steps.proofs.Kept.{Celled}
use Rattle.starting.specs.Start.{started, beginning}
use Rattle.starting.proofs.Beginning.{beginning-long, beginning-items}
use Rattle.starting.proofs.Exact.{enough-starts, started-sessions, started-items}
use Rattle.replay.specs.Claims.{of_kind, Enough, NumbersLeft}

-- the counts

-- 1 for a kind, and 0 for another
unfoldable one : ℕ → ℕ → ℕ
one k n = cond (eqb k n) 1 0

one-is : (k n : ℕ) → k ≡ n → one k n ≡ 1
unfolding one
one-is k n e = rw (eq-eqb k n e) refl

one-few : (k n : ℕ) → one k n ≤ 1
unfolding one
one-few k n = go (eqb k n)
  where
    go : (b : Bool) → cond b 1 0 ≤ 1
    go true = omega arith
    go false = omega arith

-- a step adds a session where it opens one, an item where it makes one, and nothing else
record Adds (t : State) (k : ℕ) (after : State) : Type 0 where
  sessions : length after.sessions ≤ length t.sessions + one k 1
  items : length after.items ≤ length t.items + one k 4

adds : (m : Model) (t : State) (p : Step) (after : State) → Carried m t p after → Adds t p.kind after
adds m t p after (opens h) =
    rw h.state
    record {
      sessions = simp length-append (omega (arith, one-is p.kind 1 h.kind));
      items = omega arith;
    }
adds m t p after (closes h) = rw h.state record { sessions = simp length-set (omega arith); items = omega arith }
adds m t p after (changes h) = rw h.state record { sessions = simp length-set (omega arith); items = omega arith }
adds m t p after (makes h) =
    rw h.state
    record {
      sessions = omega arith;
      items = simp length-append (omega (arith, one-is p.kind 4 h.kind));
    }
adds m t p after (modifies h) = rw h.state record { sessions = omega arith; items = simp length-set (omega arith) }
adds m t p after (grants h) = rw h.state record { sessions = omega arith; items = omega arith }

-- cells and numbers are enough for rows from a state on
pub record Ample (s : Lent) (t : State) (rows : List ℕ) : Type 0 where
  pub session-cells : length t.sessions + of_kind 1 rows ≤ length s.sessions
  pub item-cells : length t.items + of_kind 4 rows ≤ length s.items
  pub session-numbers : length t.sessions + of_kind 1 rows ≤ numbers
  pub item-numbers : length t.items + of_kind 4 rows ≤ numbers

kind-more : (k row : ℕ) (rows : List ℕ) → of_kind k (row ∷ rows) ≡ one (row_step row).kind k + of_kind k rows
unfolding of_kind one
kind-more k row rows = ap (λ (n : ℕ). one n k + of_kind k rows) (ap (λ (p : Step). p.kind) (sym (step_is (parts_of row))))

module _ (m : Model) (s : Lent) (t : State) (row : ℕ) (rows : List ℕ) (a : Ample s t (row ∷ rows)) where
  pub ample-room : Codes m s t → Room s (row_step row)
  ample-room c =
      record {
        session =
            λ e.
            let n = kind-more 1 row rows in
            let i = one-is (row_step row).kind 1 e in
            is-left s.sessions s.next.session (omega (arith, a.session-numbers, c.session-count)) (omega (arith, a.session-cells, c.session-count));
        item =
            λ e.
            let n = kind-more 4 row rows in
            let i = one-is (row_step row).kind 4 e in
            is-left s.items s.next.item (omega (arith, a.item-numbers, c.item_count)) (omega (arith, a.item-cells, c.item_count));
      }

  pub ample-after : (u : Lent) (after : State) → Celled s u → Carried m t (row_step row) after → Ample u after rows
  ample-after u after l d =
      let n = kind-more 1 row rows in
      let o = kind-more 4 row rows in
      let x = adds m t (row_step row) after d in
      record {
        session-cells = omega (arith, a.session-cells, x.sessions, l.sessions);
        item-cells = omega (arith, a.item-cells, x.items, l.items);
        session-numbers = omega (arith, a.session-numbers, x.sessions);
        item-numbers = omega (arith, a.item-numbers, x.items);
      }

-- as many rows are of a kind as there are rows, at most
pub kind-few : (k : ℕ) (rows : List ℕ) → of_kind k rows ≤ length rows
unfolding of_kind
kind-few k [] = omega arith
kind-few k (row ∷ rows) = let e = kind-more k row rows in omega (arith, one-few (row_step row).kind k, kind-few k rows)

-- starting

module _ (p : Policy) (rows sessions items : List ℕ) (e : Enough p rows (length sessions) (length items)) where
  session-cells-enough : length p.sessions ≤ length sessions
  session-cells-enough = omega (arith, e.session-cells)

  item-cells-enough : length p.items ≤ length items
  item-cells-enough = omega (arith, e.item-cells)

  pub rows_start : (started (rules p) sessions items).refusal ≡ none
  rows_start = enough-starts p sessions items session-cells-enough item-cells-enough

  pub rows-ample : NumbersLeft p rows → Ample (started (rules p) sessions items).lent (beginning p) rows
  rows-ample n =
      let sessions-long = beginning-long p in
      let items-long = ap length (beginning-items p) in
      record {
        session-cells = omega (arith, e.session-cells, sessions-long, started-sessions p sessions items session-cells-enough item-cells-enough);
        item-cells = omega (arith, e.item-cells, items-long, started-items p sessions items session-cells-enough item-cells-enough);
        session-numbers = omega (arith, n.session-numbers, sessions-long);
        item-numbers = omega (arith, n.item-numbers, items-long);
      }
