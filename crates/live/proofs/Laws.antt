-- Laws of the live state and of what a call leaves. In order: the first test that fails; numbers and cells that are left; what follows of a session
-- or an item, by what the program reads of it; what a number that is given leaves.
use mathlib.Core.Path.{◌≡◌, refl}
use mathlib.Core.Bool.{Bool, true, false}
use mathlib.Core.List.{List, ◌∷◌}
use mathlib.Core.Option.{Option, none, some}
use Prim.Native.Nat.{ℕ, ◌<◌}
use native.Mathlib.Omega.{arith}
use borrow.Author.Tests.{lt-ltb}
use lib.ListN.{length}
use Rattle.runs.specs.State.{Session, closed, opened}
use Rattle.std.specs.Prelude.{Option as Read, Some, None}
use Rattle.cells.specs.Cell.{place_of, session_read, item_read}
use Rattle.cells.specs.declared.Session.{Session as OpenSession}
use Rattle.cells.proofs.Laws.{place_of-is}
use Rattle.live.specs.Lent.{Lent, After, refused, tested, of_session, of_item, numbers, left}

-- the first test that fails

-- n is its number
pub data Fails : List (Bool × ℕ) → ℕ → Type 0 where
  here : {b : Bool} {n : ℕ} {l : List (Bool × ℕ)} → b ≡ false → Fails ((b, n) ∷ l) n
  later : {b : Bool} {m n : ℕ} {l : List (Bool × ℕ)} → b ≡ true → Fails l n → Fails ((b, m) ∷ l) n

pub fails : {l : List (Bool × ℕ)} {n : ℕ} → Fails l n → (s : Lent) (a : After) → tested l s a ≡ refused n s
unfolding tested
fails (here e) s a = rw e refl
fails (later e h) s a = rw e (fails h s a)

-- numbers and cells that are left

pub numbers-are : numbers ≡ 1048576
unfolding numbers
numbers-are = refl

-- a number below both limits is left
pub is-left : (cells : List ℕ) (next : ℕ) → next < numbers → next < length cells → left cells next ≡ true
unfolding left
is-left cells next a b =
    let c : place_of next < length cells = omega (arith, place_of-is next) in
    rw (lt-ltb next numbers a, lt-ltb (place_of next) (length cells) c) refl

-- what follows of a session or an item

-- by what the program reads of a session
abbrev pub after_session : Read OpenSession → Lent → (ℕ → ℕ → After) → After
after_session None s f = refused 13 s
after_session (Some t) s f = f t.user t.value

pub session_read_first : (x : Session) (s : Lent) (f : ℕ → ℕ → After) → of_session x s f ≡ after_session (session_read x) s f
unfolding of_session session_read
session_read_first closed s f = refl
session_read_first (opened u v) s f = refl

-- by what the program reads of an item
abbrev pub after_item : Read ℕ → Lent → (ℕ → After) → After
after_item None s f = refused 13 s
after_item (Some o) s f = f o

pub item_read_first : (x : Option ℕ) (s : Lent) (f : ℕ → After) → of_item x s f ≡ after_item (item_read x) s f
unfolding of_item item_read
item_read_first none s f = refl
item_read_first (some o) s f = refl

-- what a number that is given leaves

pub refused_is : (n : ℕ) (s : Lent) → refused n s ≡ record { refusal = some n; lent = s }
unfolding refused
refused_is n s = refl
