-- Whatever stands after a run from a start that was brought about is within the closures of specs/Reach.antt.
-- In order: what is true of each session and item; the start; each kind of step; a step that may be refused; a run.
use mathlib.Core.Path.{◌≡◌, refl, sym, ◌∙◌, subst}
use mathlib.Core.Logic.{inl, inr}
use mathlib.Core.List.{List, [], ◌∷◌}
use mathlib.Core.Option.{Option, none, some}
use Prim.Native.Nat.{ℕ, ◌≤◌, ◌<◌}
use native.Mathlib.Decide.{dec_lt}
use native.Mathlib.Omega.{arith}
use lib.ListN.{length, get_or}
use Rattle.runs.specs.Model.{Model}
use Rattle.runs.specs.State.{Session, closed, opened, State, session_at, item_at}
use Rattle.runs.specs.Step.{Step, Carried, opens, closes, changes, makes, modifies, grants}
use Rattle.runs.specs.Stepped.{stepped}
use Rattle.runs.specs.Run.{or_same, run}
use Rattle.runs.specs.Grant.{Who, session, user, anyone, Which, item, anything, IsWho, IsWhich}
use Rattle.runs.specs.Reach.{base, more, Reach, ReachFrom, ItemFrom, ItemMade, ModifiedTo, Brought, WhoReach, WhichReach, AskedWho, AskedWhich}
use Rattle.runs.proofs.Laws.{session_at-is, item_at-is, open-inside, stepped-carried, or_same-none, or_same-some, run_end, run-next}
use Rattle.runs.proofs.Lists.{AllAt, all-added, all_set}

module _ (m : Model) (start : State) where
  -- an open session is one that its user can have; one with a starting number is what its own changes make of the starting one
  abbrev pub SessionWithin : ℕ → Session → Type 0
  SessionWithin k closed = Unit {0}
  SessionWithin k (opened u v) = Reach m u v × (k < length start.sessions → (held : ℕ) × (session_at start k ≡ opened u held) × ReachFrom m u held v)

  -- an item with a starting number is what changes make of the starting one, any other what they make of a made one
  abbrev pub ItemWithin : ℕ → ℕ → Type 0
  ItemWithin k o = (k < length start.items → ItemFrom m (item_at start k) o) × (length start.items ≤ k → ItemMade m o)

  pub record Within (s : State) : Type 0 where
    pub sessions : AllAt closed (length start.sessions) SessionWithin s.sessions
    pub items : AllAt 0 (length start.items) ItemWithin s.items

  pub session-within : {s : State} → Within s → (k u v : ℕ) → session_at s k ≡ opened u v → SessionWithin k (opened u v)
  session-within {s} h k u v e = subst (SessionWithin k) (sym (session_at-is s k) ∙ e) (h.sessions.each k (open-inside s k u v e))

  pub item-within : {s : State} → Within s → (k : ℕ) → k < length s.items → ItemWithin k (item_at s k)
  item-within {s} h k l = subst (ItemWithin k) (sym (item_at-is s k)) (h.items.each k l)

  pub start-within : Brought m start → Within start
  start-within b = record {
    sessions = record { long = omega arith; each = λ k hk. at k (get_or start.sessions k closed) (session_at-is start k) };
    items = record { long = omega arith; each = λ k hk. (λ i. base (item_at-is start k), λ i. absurd (omega arith)) };
  }
    where
      at : (k : ℕ) (x : Session) → session_at start k ≡ x → SessionWithin k x
      at k closed e = tt
      at k (opened u v) e = (b k u v e, λ i. (v, e, base refl))

  modified : {k o n : ℕ} → ItemWithin k o → ModifiedTo m o n → ItemWithin k n
  modified p e = (λ h. more (p.0 h) e, λ h. more (p.1 h) e)

  pub carried-within : {s : State} {p : Step} {after : State} → Within s → Carried m s p after → Within after
  carried-within {s} {p} w (opens h) =
      rw h.state
      record {
        sessions = all-added closed _ SessionWithin s.sessions w.sessions (opened p.actor p.value)
            (base (h.user, h.listed, h.allowed), λ i. absurd (omega (arith, w.sessions.long)));
        items = w.items;
      }
  carried-within {s} {p} w (closes h) =
      rw h.state record { sessions = all_set closed _ SessionWithin s.sessions w.sessions p.target closed (λ i. tt); items = w.items }
  carried-within {s} {p} w (changes h) =
      let q = session-within w p.target p.actor h.held h.owner in
      rw h.state
      record {
        sessions = all_set closed _ SessionWithin s.sessions w.sessions p.target (opened p.actor p.value)
            (λ i. (more q.0 (h.listed, h.allowed), λ l. let r = q.1 l in (r.0, r.1, more r.2 (h.listed, h.allowed))));
        items = w.items;
      }
  carried-within {s} {p} w (makes h) =
      let q = session-within w p.actor h.user h.held h.actor in
      rw h.state
      record {
        sessions = w.sessions;
        items = all-added 0 _ ItemWithin s.items w.items p.value
            (λ i. absurd (omega (arith, w.items.long)), λ i. base (h.user, h.held, q.0, h.listed, h.allowed));
      }
  carried-within {s} {p} w (modifies h) =
      let q = session-within w p.actor h.user h.held h.actor in
      rw h.state
      record {
        sessions = w.sessions;
        items = all_set 0 _ ItemWithin s.items w.items p.target p.value
            (λ i. modified (item-within w p.target i) (h.user, h.held, q.0, h.listed, h.allowed));
      }
  carried-within w (grants h) = rw h.state w

  same-within : {s : State} → Within s → (o : Option State) → ((after : State) → o ≡ some after → Within after) → Within (or_same s o)
  same-within {s} w none f = rw (or_same-none m s) w
  same-within {s} w (some after) f = rw (or_same-some m s after) (f after refl)

  pub run-within : {s : State} → Within s → (ps : List Step) → Within (run m s ps)
  run-within {s} w [] = rw (run_end m s) w
  run-within {s} w (p ∷ ps) = rw (run-next m s p ps) (run-within {s = or_same s (stepped m s p)} (same-within w (stepped m s p) (λ after e. carried-within w (stepped-carried m s p after e))) ps)

  -- what stands after a run and is asked about is within what is asked about
  pub who-within : {s : State} → Within s → (who : Who) → AskedWho m start who → (k u v : ℕ) → session_at s k ≡ opened u v → IsWho who s k → WhoReach m start who u v
  who-within w (session j) q k u v e f = rw f at ((session-within w k u v e).1 (rw f q))
  who-within w (user a) q k u v e f = let z = f.1 in (cc, (session-within w k u v e).0)
  who-within w anyone q k u v e f = (session-within w k u v e).0

  pub which-within : {s : State} → Within s → (which : Which) → AskedWhich m start which → (k : ℕ) → k < length s.items → IsWhich which k → WhichReach m start which (item_at s k)
  which-within {s} w (item j) q k l f = rw (← f) ((item-within w k l).0 (rw f q))
  which-within {s} w anything q k l f = at (dec_lt k (length start.items))
    where
      at : Dec (k < length start.items) → WhichReach m start anything (item_at s k)
      at (yes i) = inr (k, i, (item-within w k l).0 i)
      at (no i) = inl ((item-within w k l).1 (omega arith))
