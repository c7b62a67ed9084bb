-- Numbers count up. In order: a step never lowers the next numbers; rows never do; a number that is given is the next one, and then the next is greater.
use mathlib.Core.Path.{◌≡◌, sym, ap, ◌∙◌}
use mathlib.Core.List.{List, [], ◌∷◌}
use mathlib.Core.Option.{none}
use Prim.Native.Nat.{ℕ, ◌+◌, ◌≤◌}
use native.Mathlib.Omega.{arith}
use Rattle.runs.specs.Model.{Model}
use Rattle.runs.specs.Step.{Step}
use Rattle.cells.specs.Row.{parts_of, step_of}
use Rattle.live.specs.Lent.{Lent, After, done}
use Rattle.live.proofs.Outcomes.{tested-done, session-done}
use Rattle.steps.specs.Step.{with_session, with_item, session_given, item_given, opening, making, by_kind, step_in, steps_in}
use Rattle.steps.specs.Claims.{GivesSession, GivesItem, NumbersCountUp}
use Rattle.steps.proofs.Kept.{Lasts, lasts-step}
use Rattle.steps.proofs.Table.{target-next}

-- the next numbers of t are not below those of s
record Onward (s t : Lent) : Type 0 where
  session : s.next.session ≤ t.next.session
  item : s.next.item ≤ t.next.item

onward-same : (s : Lent) → Onward s s
onward-same s = record { session = omega arith; item = omega arith }

onward_then : {s t u : Lent} → Onward s t → Onward t u → Onward s u
onward_then a b = record { session = omega (arith, a.session, b.session); item = omega (arith, a.item, b.item) }

onward-lasts : (s : Lent) → Lasts (Onward s) s
unfolding with_session with_item session_given item_given
onward-lasts s =
    record {
      same = onward-same s;
      session = λ k w. record { session = omega arith; item = omega arith };
      item = λ k w. record { session = omega arith; item = omega arith };
      opened = λ k w. record { session = omega arith; item = omega arith };
      made = λ k w. record { session = omega arith; item = omega arith };
    }

onward-step : (m : Model) (s : Lent) (row : ℕ) → Onward s (step_in m s row).lent
onward-step m s = lasts-step (Onward s) m s (onward-lasts s)

onward-steps : (m : Model) (s : Lent) (rows : List ℕ) → Onward s (steps_in m s rows)
unfolding steps_in
onward-steps m s [] = onward-same s
onward-steps m s (row ∷ rows) = onward_then (onward-step m s row) (onward-steps m (step_in m s row).lent rows)

-- a number that is given is the next, and the next is then one greater
record Given (next number after : ℕ) : Type 0 where
  here : number ≡ next
  raised : after ≡ next + 1

module _ (m : Model) (s : Lent) (p : Step) where
  opening-given : (opening m s p).refusal ≡ none → Given s.next.session p.target (opening m s p).lent.next.session
  unfolding opening done session_given with_session
  opening-given e =
      tested-done _ s _ e λ h q.
      record { here = target-next _ _ s.sessions h.1.1.1.0 h.1.0; raised = ap (λ (a : After). a.lent.next.session) q }

  making-given : (making m s p).refusal ≡ none → Given s.next.item p.target (making m s p).lent.next.item
  unfolding making done item_given with_item
  making-given e =
      session-done _ s _ e λ u v o f r.
      tested-done _ s _ f λ h q.
      record { here = target-next _ _ s.items h.1.1.0 h.0; raised = ap (λ (a : After). a.lent.next.item) (r ∙ q) }

module _ (m : Model) (s : Lent) (row : ℕ) where
  -- what is carried out is the step of its kind
  of-kind : {C : Type 0} (k : ℕ) → (parts_of row).kind ≡ k → (step_in m s row).refusal ≡ none
      → (step_in m s row ≡ by_kind m s (step_of (parts_of row)) k → C) → C
  unfolding step_in step_of
  of-kind k e d f = tested-done _ s _ d λ h q. f (q ∙ ap (by_kind m s (step_of (parts_of row))) e)

  session-given : (k : ℕ) → GivesSession m s row k → Given s.next.session k (step_in m s row).lent.next.session
  unfolding by_kind step_of
  session-given k g =
      of-kind 1 g.kind g.done λ q.
      let x = opening-given m s (step_of (parts_of row)) (sym (ap (λ (a : After). a.refusal) q) ∙ g.done) in
      record { here = sym g.number ∙ x.here; raised = ap (λ (a : After). a.lent.next.session) q ∙ x.raised }

  item-given : (k : ℕ) → GivesItem m s row k → Given s.next.item k (step_in m s row).lent.next.item
  unfolding by_kind step_of
  item-given k g =
      of-kind 4 g.kind g.done λ q.
      let x = making-given m s (step_of (parts_of row)) (sym (ap (λ (a : After). a.refusal) q) ∙ g.done) in
      record { here = sym g.number ∙ x.here; raised = ap (λ (a : After). a.lent.next.item) q ∙ x.raised }

pub count-up : NumbersCountUp
unfolding steps_in
count-up =
    record {
      sessions =
          λ m s row between later k j g n.
          let a = session-given m s row k g in
          let b = session-given m (steps_in m (step_in m s row).lent between) later j n in
          omega (arith, a.here, a.raised, b.here, (onward-steps m (step_in m s row).lent between).session);
      items =
          λ m s row between later k j g n.
          let a = item-given m s row k g in
          let b = item-given m (steps_in m (step_in m s row).lent between) later j n in
          omega (arith, a.here, a.raised, b.here, (onward-steps m (step_in m s row).lent between).item);
    }
