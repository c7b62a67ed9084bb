-- When lent cells code the state of a run, and when a number and a cell are left for a step.
-- Assumes nothing.
use Rattle.std.specs.Prelude.{◌≡◌, true, ℕ, ◌≤◌, ◌<◌, length}
use Rattle.std.proofs.Math.Option.{some}
use Rattle.runs.specs.Model.{Model}
use Rattle.runs.specs.State.{State, session_at, item_at as value_at}
use Rattle.runs.specs.Step.{Step}
use Rattle.live.specs.Lent.{Lent, numbers, left}
use Rattle.steps.specs.Step.{session_now, item_now}

-- users and values are bytes, as cells hold them
pub record Bytes (m : Model) : Type 0 where
  pub users : m.users ≤ 256
  pub sessions : (v : ℕ) → m.session_value v ≡ true → v < 256
  pub items : (o : ℕ) → m.item_value o ≡ true → o < 256

-- the cells read as the run's state stands: as many numbers are given as the lists are long, each has a cell, and the cell codes it
pub record Codes (m : Model) (s : Lent) (t : State) : Type 0 where
  pub session-count : s.next.session ≡ length t.sessions
  pub item_count : s.next.item ≡ length t.items
  pub session-numbers : s.next.session ≤ numbers
  pub item-numbers : s.next.item ≤ numbers
  pub each-session : (k : ℕ) → session_now m s k ≡ session_at t k
  pub each_item : (k : ℕ) → k < length t.items → item_now m s k ≡ some (value_at t k)

-- a step that gives a number has one left, and a cell for it
pub record Room (s : Lent) (p : Step) : Type 0 where
  pub session : p.kind ≡ 1 → left s.sessions s.next.session ≡ true
  pub item : p.kind ≡ 4 → left s.items s.next.item ≡ true

-- two live states that read alike
pub record Reads (m : Model) (s t : Lent) : Type 0 where
  pub next : s.next ≡ t.next
  pub session-cells : length s.sessions ≡ length t.sessions
  pub item-cells : length s.items ≡ length t.items
  pub each-session : (k : ℕ) → session_now m s k ≡ session_now m t k
  pub each_item : (k : ℕ) → item_now m s k ≡ item_now m t k
