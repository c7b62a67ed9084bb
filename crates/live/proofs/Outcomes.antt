-- Outcomes of tests in a row. In order: what was done passed every test; a number from 12 to 16 leaves all as it was.
use mathlib.Core.Path.{◌≡◌, refl, sym}
use mathlib.Core.Bool.{Bool, true, false, ◌&&◌}
use mathlib.Core.List.{List, [], ◌∷◌}
use mathlib.Core.Option.{Option, none, some}
use Prim.Native.Nat.{ℕ, ◌≤◌}
use native.Mathlib.Omega.{arith}
use borrow.Author.Tests.{leb-true}
use lib.Dec.{leb}
use Rattle.runs.specs.State.{Session, closed, opened}
use Rattle.live.specs.Lent.{Lent, After, refused, done, tested, of_session, of_item}

-- every test of a row holds
abbrev pub AllHold : List (Bool × ℕ) → Type 0
AllHold [] = Unit {0}
AllHold (t ∷ l) = (t.0 ≡ true) × AllHold l

-- every number of a row is one of a step
abbrev pub step_numbers : List (Bool × ℕ) → Bool
step_numbers [] = true
step_numbers (t ∷ l) = leb 12 t.1 && (leb t.1 16 && step_numbers l)

and_left : (a b : Bool) → (a && b) ≡ true → a ≡ true
and_left true b e = refl
and_left false b e = e

and_right : (a b : Bool) → (a && b) ≡ true → b ≡ true
and_right true b e = e
and_right false b e = absurd (let z : ◌≡◌ {A = ℕ} 0 1 = cc in omega arith)

pub some-not-none : {C : Type 0} {n : ℕ} → Path (Option ℕ) (some n) none → C
some-not-none e = absurd (let z : ◌≡◌ {A = ℕ} 0 1 = cc in omega arith)

-- a number is not done
pub refused-not-done : {C : Type 0} (n : ℕ) (s : Lent) → (refused n s).refusal ≡ none → C
unfolding refused
refused-not-done n s e = some-not-none e

pub done-refusal : (s : Lent) → (done s).refusal ≡ none
unfolding done
done-refusal s = refl

pub done-lent : (s : Lent) → (done s).lent ≡ s
unfolding done
done-lent s = refl

pub tested-done : {C : Type 0} (l : List (Bool × ℕ)) (s : Lent) (a : After) → (tested l s a).refusal ≡ none → (AllHold l → tested l s a ≡ a → C) → C
unfolding tested
tested-done [] s a e k = k tt refl
tested-done ((true, n) ∷ l) s a e k = tested-done l s a e (λ h q. k (refl, h) q)
tested-done ((false, n) ∷ l) s a e k = refused-not-done n s e

pub tested-all : (l : List (Bool × ℕ)) (s : Lent) (a : After) → AllHold l → tested l s a ≡ a
unfolding tested
tested-all [] s a h = refl
tested-all ((true, n) ∷ l) s a h = tested-all l s a h.1
tested-all ((false, n) ∷ l) s a h = absurd (let z : ◌≡◌ {A = ℕ} 0 1 = let e = h.0 in cc in omega arith)

pub session-done : {C : Type 0} (x : Session) (s : Lent) (f : ℕ → ℕ → After) → (of_session x s f).refusal ≡ none
    → ((u v : ℕ) → x ≡ opened u v → (f u v).refusal ≡ none → of_session x s f ≡ f u v → C) → C
unfolding of_session
session-done closed s f e k = refused-not-done 13 s e
session-done (opened u v) s f e k = k u v refl e refl

pub session-is : (x : Session) (s : Lent) (f : ℕ → ℕ → After) (u v : ℕ) → x ≡ opened u v → of_session x s f ≡ f u v
unfolding of_session
session-is x s f u v e = rw e refl

pub item-done : {C : Type 0} (x : Option ℕ) (s : Lent) (f : ℕ → After) → (of_item x s f).refusal ≡ none
    → ((o : ℕ) → x ≡ some o → (f o).refusal ≡ none → of_item x s f ≡ f o → C) → C
unfolding of_item
item-done none s f e k = refused-not-done 13 s e
item-done (some o) s f e k = k o refl e refl

pub item-is : (x : Option ℕ) (s : Lent) (f : ℕ → After) (o : ℕ) → x ≡ some o → of_item x s f ≡ f o
unfolding of_item
item-is x s f o e = rw e refl

-- where a number is given it is a step's, and all is as it was
abbrev pub Kept : Lent → After → Type 0
Kept s a = (n : ℕ) → a.refusal ≡ some n → (a.lent ≡ s) × (12 ≤ n) × (n ≤ 16)

pub kept-refused : (s : Lent) (n : ℕ) → 12 ≤ n → n ≤ 16 → Kept s (refused n s)
unfolding refused
kept-refused s n l h k e = let q : n ≡ k = cc in (refl, omega arith, omega arith)

pub kept-done : (s t : Lent) → Kept s (done t)
unfolding done
kept-done s t n e = some-not-none (sym e)

pub kept-tested : (l : List (Bool × ℕ)) (s : Lent) (a : After) → step_numbers l ≡ true → Kept s a → Kept s (tested l s a)
unfolding tested
kept-tested [] s a h k = k
kept-tested ((true, n) ∷ l) s a h k = kept-tested l s a (and_right (leb n 16) (step_numbers l) (and_right (leb 12 n) (leb n 16 && step_numbers l) h)) k
kept-tested ((false, n) ∷ l) s a h k =
    kept-refused s n (leb-true 12 n (and_left (leb 12 n) (leb n 16 && step_numbers l) h))
    (leb-true n 16 (and_left (leb n 16) (step_numbers l) (and_right (leb 12 n) (leb n 16 && step_numbers l) h)))

pub kept-session : (x : Session) (s : Lent) (f : ℕ → ℕ → After) → ((u v : ℕ) → Kept s (f u v)) → Kept s (of_session x s f)
unfolding of_session
kept-session closed s f k = kept-refused s 13 (omega arith) (omega arith)
kept-session (opened u v) s f k = k u v

pub kept-item : (x : Option ℕ) (s : Lent) (f : ℕ → After) → ((o : ℕ) → Kept s (f o)) → Kept s (of_item x s f)
unfolding of_item
kept-item none s f k = kept-refused s 13 (omega arith) (omega arith)
kept-item (some o) s f k = k o
