-- What a step keeps. In order: where a number is given, all is as it was; what holds of a live state and after each way of writing it holds after a
-- step; a step leaves as many cells as there were.
use mathlib.Core.Path.{◌≡◌, refl}
use mathlib.Core.Bool.{Bool, true, false}
use mathlib.Core.List.{List, [], ◌∷◌}
use mathlib.Core.Option.{Option, none, some}
use Prim.Native.Nat.{ℕ, zero, suc}
use native.Mathlib.Omega.{arith}
use lib.ListN.{length, length-set}
use Rattle.runs.specs.Model.{Model}
use Rattle.runs.specs.State.{Session, closed, opened}
use Rattle.runs.specs.Step.{Step}
use Rattle.cells.specs.Cell.{place_of}
use Rattle.live.specs.Lent.{Lent, After, refused, done, tested, of_session, of_item}
use Rattle.live.proofs.Outcomes.{Kept, kept-refused, kept-done, kept-tested, kept-session, kept-item}
use Rattle.steps.specs.Step.{with_session, with_item, session_given, item_given, opening, closing, changing, making, modifying, accessing, by_kind, step_in}

module _ (m : Model) (s : Lent) (p : Step) where
  kept-kind : (k : ℕ) → Kept s (by_kind m s p k)
  unfolding by_kind opening closing changing making modifying accessing
  kept-kind zero = kept-refused s 12 (omega arith) (omega arith)
  kept-kind (suc zero) = kept-tested _ s _ refl (kept-done s _)
  kept-kind (suc (suc zero)) = kept-tested _ s _ refl (kept-session _ s _ λ u v. kept-tested _ s _ refl (kept-done s _))
  kept-kind (suc (suc (suc zero))) = kept-session _ s _ λ u v. kept-tested _ s _ refl (kept-done s _)
  kept-kind (suc (suc (suc (suc zero)))) = kept-session _ s _ λ u v. kept-tested _ s _ refl (kept-done s _)
  kept-kind (suc (suc (suc (suc (suc zero))))) = kept-session _ s _ λ u v. kept-item _ s _ λ o. kept-tested _ s _ refl (kept-done s _)
  kept-kind (suc (suc (suc (suc (suc (suc zero)))))) = kept-session _ s _ λ u v. kept-item _ s _ λ o. kept-tested _ s _ refl (kept-done s _)
  kept-kind (suc (suc (suc (suc (suc (suc (suc k))))))) = kept-refused s 12 (omega arith) (omega arith)

pub kept_step : (m : Model) (s : Lent) (row : ℕ) → Kept s (step_in m s row)
unfolding step_in
kept_step m s row = kept-tested _ s _ refl (kept-kind m s _ _)

-- what holds of a live state, and of it after each way of writing it
pub record Lasts (P : Lent → Type 0) (s : Lent) : Type 0 where
  pub same : P s
  pub session : (k w : ℕ) → P (with_session s k w)
  pub item : (k w : ℕ) → P (with_item s k w)
  pub opened : (k w : ℕ) → P (session_given (with_session s k w))
  pub made : (k w : ℕ) → P (item_given (with_item s k w))

module _ (P : Lent → Type 0) (s : Lent) (same : P s) where
  lasts-refused : (n : ℕ) → P (refused n s).lent
  unfolding refused
  lasts-refused n = same

  lasts-tested : (l : List (Bool × ℕ)) (a : After) → P a.lent → P (tested l s a).lent
  unfolding tested
  lasts-tested [] a o = o
  lasts-tested ((true, n) ∷ l) a o = lasts-tested l a o
  lasts-tested ((false, n) ∷ l) a o = lasts-refused n

  lasts-session : (x : Session) (f : ℕ → ℕ → After) → ((u v : ℕ) → P (f u v).lent) → P (of_session x s f).lent
  unfolding of_session
  lasts-session closed f o = lasts-refused 13
  lasts-session (opened u v) f o = o u v

  lasts-item : (x : Option ℕ) (f : ℕ → After) → ((o : ℕ) → P (f o).lent) → P (of_item x s f).lent
  unfolding of_item
  lasts-item none f o = lasts-refused 13
  lasts-item (some v) f o = o v

lasts-done : (P : Lent → Type 0) (s : Lent) → P s → P (done s).lent
unfolding done
lasts-done P s o = o

module _ (P : Lent → Type 0) (m : Model) (s : Lent) (h : Lasts P s) where
  lasts-kind : (p : Step) (k : ℕ) → P (by_kind m s p k).lent
  unfolding by_kind opening closing changing making modifying accessing
  lasts-kind p zero = lasts-refused P s h.same 12
  lasts-kind p (suc zero) = lasts-tested P s h.same _ _ (lasts-done P _ (h.opened _ _))
  lasts-kind p (suc (suc zero)) =
      lasts-tested P s h.same _ _ (lasts-session P s h.same _ _ λ u v. lasts-tested P s h.same _ _ (lasts-done P _ (h.session _ _)))
  lasts-kind p (suc (suc (suc zero))) = lasts-session P s h.same _ _ λ u v. lasts-tested P s h.same _ _ (lasts-done P _ (h.session _ _))
  lasts-kind p (suc (suc (suc (suc zero)))) = lasts-session P s h.same _ _ λ u v. lasts-tested P s h.same _ _ (lasts-done P _ (h.made _ _))
  lasts-kind p (suc (suc (suc (suc (suc zero))))) =
      lasts-session P s h.same _ _ λ u v. lasts-item P s h.same _ _ λ o. lasts-tested P s h.same _ _ (lasts-done P _ (h.item _ _))
  lasts-kind p (suc (suc (suc (suc (suc (suc zero)))))) =
      lasts-session P s h.same _ _ λ u v. lasts-item P s h.same _ _ λ o. lasts-tested P s h.same _ _ (lasts-done P _ h.same)
  lasts-kind p (suc (suc (suc (suc (suc (suc (suc k))))))) = lasts-refused P s h.same 12

  pub lasts-step : (row : ℕ) → P (step_in m s row).lent
  unfolding step_in
  lasts-step row = lasts-tested P s h.same _ _ (lasts-kind _ _)

-- as many cells
pub record Celled (s t : Lent) : Type 0 where
  pub sessions : length t.sessions ≡ length s.sessions
  pub items : length t.items ≡ length s.items

celled-lasts : (s : Lent) → Lasts (Celled s) s
unfolding with_session with_item session_given item_given
celled-lasts s =
    record {
      same = record { sessions = refl; items = refl };
      session = λ k w. record { sessions = length-set s.sessions (place_of k) w; items = refl };
      item = λ k w. record { sessions = refl; items = length-set s.items (place_of k) w };
      opened = λ k w. record { sessions = length-set s.sessions (place_of k) w; items = refl };
      made = λ k w. record { sessions = refl; items = length-set s.items (place_of k) w };
    }

pub celled-step : (m : Model) (s : Lent) (row : ℕ) → Celled s (step_in m s row).lent
celled-step m s = lasts-step (Celled s) m s (celled-lasts s)
