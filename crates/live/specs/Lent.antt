-- The live state [01:Steps, "The live state is two lent slices of 64-bit cells"], and what a call leaves: the number that is given instead, if one is,
-- and the state after it.
-- Assumes nothing.
use Rattle.std.specs.Prelude.{Bool, true, false, ◌&&◌, List, [], ◌∷◌, ℕ, ltb, leb, length, Result, Ok, Err}
use Rattle.std.proofs.Math.Option.{Option, none, some}
use Rattle.runs.specs.State.{Session, closed, opened}
use Rattle.cells.specs.Cell.{place_of}
use Rattle.live.specs.declared.Next.{Next}
use Rattle.live.specs.declared.LiveState.{LiveState}
use Rattle.refusal.specs.declared.Refusal.{Refusal}
use Rattle.refusal.specs.Number.{number_of}

-- the cells of sessions and of items, and the next numbers
pub record Lent : Type 0 where
  pub sessions : List ℕ
  pub items : List ℕ
  pub next : Next

-- [01:How each place should look, "Where an answer is an enum"]: the number of a refusal, by the number that each has; none where the call is carried
-- out
abbrev pub refusal_in : {A E : Type 0} → (E → ℕ) → Result A E → Option ℕ
refusal_in numbered (Ok _) = none
refusal_in numbered (Err refusal) = some (numbered refusal)

-- the same by the papers' numbers
abbrev pub refusal_of : {A : Type 0} → Result A Refusal → Option ℕ
refusal_of = refusal_in number_of

-- the same for hosts, as one number: 0 for none
unfoldable pub host_number : Option ℕ → ℕ
host_number none = 0
host_number (some n) = n

-- the number that is given instead, if one is, and what then stands
pub record After : Type 0 where
  pub refusal : Option ℕ
  pub lent : Lent

-- two slices and the next numbers as a live state
abbrev pub lent_as : List ℕ → List ℕ → Next → Lent
lent_as sessions items next = record { sessions = sessions; items = items; next = next }

-- the live state that is read
abbrev pub lent_of : LiveState → Lent
lent_of s = lent_as s.sessions.now s.items.now s.next

-- an outcome, the next numbers and what two slices hold, as what a call leaves
abbrev pub leaves : {A : Type 0} → Result A Refusal → Next → List ℕ → List ℕ → After
leaves outcome next sessions items = record { refusal = refusal_of outcome; lent = lent_as sessions items next }

-- a number is given, and nothing changes
unfoldable pub refused : ℕ → Lent → After
refused n s = record { refusal = some n; lent = s }

-- carried out
unfoldable pub done : Lent → After
done s = record { refusal = none; lent = s }

-- the first test that fails gives its number; where all hold, what follows
unfoldable pub tested : List (Bool × ℕ) → Lent → After → After
tested [] s a = a
tested ((true, n) ∷ l) s a = tested l s a
tested ((false, n) ∷ l) s a = refused n s

-- what follows of an open session's user and value; 13 where there is none
unfoldable pub of_session : Session → Lent → (ℕ → ℕ → After) → After
of_session closed s f = refused 13 s
of_session (opened u v) s f = f u v

-- what follows of an item's value; 13 where there is none
unfoldable pub of_item : Option ℕ → Lent → (ℕ → After) → After
of_item none s f = refused 13 s
of_item (some o) s f = f o

-- so many numbers of sessions, and of items, can be given
unfoldable pub numbers : ℕ
numbers = 1048576

-- all numbers are given
unfoldable pub all_given : ℕ → Bool
all_given next = leb numbers next

-- a number and a cell are left
unfoldable pub left : List ℕ → ℕ → Bool
left cells next = ltb next numbers && ltb (place_of next) (length cells)
