-- The step on cells is the step of the run. In order: what is carried out on cells is carried out in the run, and the cells code what it leaves;
-- what the run carries out is carried out on cells, where a number and a cell are left; the whole table.
use mathlib.Core.Path.{◌≡◌, refl, sym, ap, ◌∙◌, subst}
use mathlib.Core.Bool.{Bool, true, false, ◌||◌}
use mathlib.Core.List.{List, [], ◌∷◌, ◌++◌}
use mathlib.Core.Option.{none, some}
use Prim.Native.Nat.{ℕ, zero, suc, ◌<◌}
use native.Mathlib.Omega.{arith}
use borrow.Author.Tests.{eqb-true, ltb-true, eq-eqb, lt-ltb, lt-leb}
use lib.Dec.{leb, eqb}
use lib.ListN.{length, set}
use Rattle.runs.specs.Model.{Model}
use Rattle.runs.specs.State.{closed, opened, State, session_at, item_at as value_at}
use Rattle.runs.specs.Step.{Step, Carried, opens, closes, changes, makes, modifies, grants}
use Rattle.runs.proofs.Laws.{carried-stepped}
use Rattle.cells.specs.Row.{parts_of, step_of}
use Rattle.cells.specs.Cell.{open_cell}
use Rattle.cells.proofs.Laws.{item-reads}
use Rattle.live.specs.Lent.{Lent, After, done, all_given, numbers, left}
use Rattle.live.proofs.Outcomes.{refused-not-done, done-refusal, done-lent, tested-done, tested-all, session-done, session-is, item-done, item-is}
use Rattle.steps.specs.Step.{session_now, item_now, with_session, opening, closing, changing, making, modifying, accessing, by_kind, step_in}
use Rattle.steps.specs.Codes.{Bytes, Codes, Room}
use Rattle.steps.specs.Claims.{TableStep}
use Rattle.steps.proofs.Kept.{kept_step}
use Rattle.steps.proofs.Coding.{left-holds, codes-opened, codes-closed, codes-changed, codes-made, codes-modified}

-- what a step on cells does is a step of the run, and the cells code what it leaves
record Happens (m : Model) (s : Lent) (t : State) (p : Step) (a : After) : Type 0 where
  after : State
  carried : Carried m t p after
  room : Room s p
  codes : Codes m a.lent after

codes-done : (m : Model) (a : After) (x : Lent) (t : State) → a ≡ done x → Codes m x t → Codes m a.lent t
codes-done m a x t e c = subst (λ (y : Lent). Codes m y t) (sym (ap (λ (b : After). b.lent) e ∙ done-lent x)) c

or-second : (a b : Bool) → a ≡ false → (a || b) ≡ true → b ≡ true
or-second a b f e = let g : (false || b) ≡ true = subst (λ (x : Bool). (x || b) ≡ true) f e in g

or-other : (a b : Bool) → b ≡ true → (a || b) ≡ true
or-other true b e = refl
or-other false b e = e

-- a number that is left is the one that is tested
pub target-next : (next target : ℕ) (cells : List ℕ) → left cells next ≡ true → (all_given next || eqb target next) ≡ true → target ≡ next
unfolding all_given
target-next next target cells l e = eqb-true target next (or-second (leb numbers next) (eqb target next) (lt-leb numbers next (left-holds cells next l).0) e)

next-target : (next target : ℕ) → target ≡ next → (all_given next || eqb target next) ≡ true
next-target next target e = or-other (all_given next) (eqb target next) (eq-eqb target next e)

module _ (m : Model) (bytes : Bytes m) (s : Lent) (t : State) (c : Codes m s t) (p : Step) where
  -- room for a step that gives no number
  room-other : (p.kind ≡ 1 → ⊥) → (p.kind ≡ 4 → ⊥) → Room s p
  room-other a b = record { session = λ e. absurd (a e); item = λ e. absurd (b e) }

  opening-happens : p.kind ≡ 1 → (opening m s p).refusal ≡ none → Happens m s t p (opening m s p)
  unfolding opening
  opening-happens k e =
      tested-done _ s _ e λ h q.
      let l : left s.sessions s.next.session ≡ true = h.1.1.1.0 in
      let user = ltb-true _ _ h.0 in
      record {
        after = record { sessions = t.sessions ++ opened p.actor p.value ∷ []; items = t.items };
        carried =
            opens
            record {
              kind = k;
              user = user;
              next = target-next _ _ s.sessions l h.1.0 ∙ c.session-count;
              listed = h.1.1.0;
              allowed = h.1.1.1.1.0;
              state = refl;
            };
        room = record { session = λ _. l; item = λ i. absurd (omega arith) };
        codes = codes-done m _ _ _ q (codes-opened m bytes s t c p.actor p.value user h.1.1.0 l);
      }

  closing-happens : p.kind ≡ 2 → (closing m s p).refusal ≡ none → Happens m s t p (closing m s p)
  unfolding closing
  closing-happens k e =
      tested-done _ s _ e λ h q.
      session-done _ s _ (subst (λ (a : After). a.refusal ≡ none) q e) λ u v o f r.
      tested-done _ s _ f λ g d.
      let a : u ≡ p.actor = sym (eqb-true _ _ g.0) in
      let owner : session_at t p.target ≡ opened p.actor v = sym (c.each-session p.target) ∙ o ∙ ap (λ (x : ℕ). opened x v) a in
      record {
        after = record { sessions = set t.sessions p.target closed; items = t.items };
        carried = closes record { kind = k; held = v; owner = owner; nothing = eqb-true _ _ h.0; state = refl };
        room = room-other (λ i. omega arith) (λ i. omega arith);
        codes = codes-done m _ _ _ (q ∙ r ∙ d) (codes-closed m bytes s t c p.target p.actor v owner);
      }

  changing-happens : p.kind ≡ 3 → (changing m s p).refusal ≡ none → Happens m s t p (changing m s p)
  unfolding changing
  changing-happens k e =
      session-done _ s _ e λ u v o f r.
      tested-done _ s _ f λ g d.
      let a : u ≡ p.actor = sym (eqb-true _ _ g.0) in
      let owner : session_at t p.target ≡ opened p.actor v = sym (c.each-session p.target) ∙ o ∙ ap (λ (x : ℕ). opened x v) a in
      record {
        after = record { sessions = set t.sessions p.target (opened p.actor p.value); items = t.items };
        carried =
            changes
            record {
              kind = k;
              held = v;
              owner = owner;
              listed = g.1.0;
              allowed = subst (λ (x : ℕ). m.may_change x v p.value ≡ true) a g.1.1.0;
              state = refl;
            };
        room = room-other (λ i. omega arith) (λ i. omega arith);
        codes =
            codes-done m _ _ _ (r ∙ d ∙ ap (λ (x : ℕ). done (with_session s p.target (open_cell x p.value))) a)
            (codes-changed m bytes s t c p.target p.actor v p.value owner g.1.0);
      }

  making-happens : p.kind ≡ 4 → (making m s p).refusal ≡ none → Happens m s t p (making m s p)
  unfolding making
  making-happens k e =
      session-done _ s _ e λ u v o f r.
      tested-done _ s _ f λ g d.
      let l : left s.items s.next.item ≡ true = g.1.1.0 in
      record {
        after = record { sessions = t.sessions; items = t.items ++ p.value ∷ [] };
        carried =
            makes
            record {
              kind = k;
              user = u;
              held = v;
              actor = sym (c.each-session p.actor) ∙ o;
              next = target-next _ _ s.items l g.0 ∙ c.item_count;
              listed = g.1.0;
              allowed = g.1.1.1.0;
              state = refl;
            };
        room = record { session = λ i. absurd (omega arith); item = λ _. l };
        codes = codes-done m _ _ _ (r ∙ d) (codes-made m bytes s t c p.value g.1.0 l);
      }

  -- an item that reads is one of the run's
  item-read : (o : ℕ) → item_now m s p.target ≡ some o → (p.target < length t.items) × (o ≡ value_at t p.target)
  unfolding item_now
  item-read o e =
      let h : p.target < length t.items = omega (arith, c.item_count, (item-reads m.item_value s.items s.next.item p.target o e).given) in
      let q : some o ≡ some (value_at t p.target) = sym e ∙ c.each_item p.target h in
      (h, let r : o ≡ value_at t p.target = cc in r)

  modifying-happens : p.kind ≡ 5 → (modifying m s p).refusal ≡ none → Happens m s t p (modifying m s p)
  unfolding modifying
  modifying-happens k e =
      session-done _ s _ e λ u v a f r.
      item-done _ s _ f λ o b i w.
      tested-done _ s _ i λ g d.
      record {
        after = record { sessions = t.sessions; items = set t.items p.target p.value };
        carried =
            modifies
            record {
              kind = k;
              user = u;
              held = v;
              actor = sym (c.each-session p.actor) ∙ a;
              there = (item-read o b).0;
              listed = g.0;
              allowed = subst (λ (x : ℕ). m.may_modify v x p.value ≡ true) (item-read o b).1 g.1.0;
              state = refl;
            };
        room = room-other (λ i. omega arith) (λ i. omega arith);
        codes = codes-done m _ _ _ (r ∙ w ∙ d) (codes-modified m bytes s t c p.target p.value (item-read o b).0 g.0);
      }

  accessing-happens : p.kind ≡ 6 → (accessing m s p).refusal ≡ none → Happens m s t p (accessing m s p)
  unfolding accessing
  accessing-happens k e =
      session-done _ s _ e λ u v a f r.
      item-done _ s _ f λ o b i w.
      tested-done _ s _ i λ g d.
      record {
        after = t;
        carried =
            grants
            record {
              kind = k;
              user = u;
              held = v;
              actor = sym (c.each-session p.actor) ∙ a;
              there = (item-read o b).0;
              permission = ltb-true _ _ g.0;
              allowed = subst (λ (x : ℕ). m.may_access p.value v x ≡ true) (item-read o b).1 g.1.0;
              state = refl;
            };
        room = room-other (λ i. omega arith) (λ i. omega arith);
        codes = codes-done m _ _ _ (r ∙ w ∙ d) c;
      }

  kind-happens : (k : ℕ) → p.kind ≡ k → (by_kind m s p k).refusal ≡ none → Happens m s t p (by_kind m s p k)
  unfolding by_kind
  kind-happens zero k e = refused-not-done 12 s e
  kind-happens (suc zero) k e = opening-happens k e
  kind-happens (suc (suc zero)) k e = closing-happens k e
  kind-happens (suc (suc (suc zero))) k e = changing-happens k e
  kind-happens (suc (suc (suc (suc zero)))) k e = making-happens k e
  kind-happens (suc (suc (suc (suc (suc zero))))) k e = modifying-happens k e
  kind-happens (suc (suc (suc (suc (suc (suc zero)))))) k e = accessing-happens k e
  kind-happens (suc (suc (suc (suc (suc (suc (suc n))))))) k e = refused-not-done 12 s e

  -- a step of a kind
  kind-is : (k : ℕ) (a : After) → p.kind ≡ k → by_kind m s p k ≡ a → a.refusal ≡ none → (by_kind m s p p.kind).refusal ≡ none
  kind-is k a e q d = ap (λ (n : ℕ). (by_kind m s p n).refusal) e ∙ ap (λ (x : After). x.refusal) q ∙ d

  there-is : (k u v : ℕ) → session_at t k ≡ opened u v → session_now m s k ≡ opened u v
  there-is k u v e = c.each-session k ∙ e

  pub carried-done : (after : State) → Room s p → Carried m t p after → (by_kind m s p p.kind).refusal ≡ none
  unfolding by_kind opening closing changing making modifying accessing
  carried-done after r (opens h) =
      kind-is 1 _ h.kind
      (tested-all _ s _
      (lt-ltb _ _ h.user, (next-target _ _ (h.next ∙ sym c.session-count), (h.listed, (r.session h.kind, (h.allowed, tt))))))
      (done-refusal _)
  carried-done after r (closes h) =
      kind-is 2 _ h.kind
      (tested-all _ s _ (eq-eqb _ _ h.nothing, tt) ∙ session-is _ s _ _ _ (there-is _ _ _ h.owner) ∙ tested-all _ s _ (eq-eqb p.actor _ refl, tt))
      (done-refusal _)
  carried-done after r (changes h) =
      kind-is 3 _ h.kind
      (session-is _ s _ _ _ (there-is _ _ _ h.owner) ∙ tested-all _ s _ (eq-eqb p.actor _ refl, (h.listed, (h.allowed, tt))))
      (done-refusal _)
  carried-done after r (makes h) =
      kind-is 4 _ h.kind
      (session-is _ s _ _ _ (there-is _ _ _ h.actor)
      ∙ tested-all _ s _ (next-target _ _ (h.next ∙ sym c.item_count), (h.listed, (r.item h.kind, (h.allowed, tt)))))
      (done-refusal _)
  carried-done after r (modifies h) =
      kind-is 5 _ h.kind
      (session-is _ s _ _ _ (there-is _ _ _ h.actor) ∙ item-is _ s _ _ (c.each_item p.target h.there) ∙ tested-all _ s _ (h.listed, (h.allowed, tt)))
      (done-refusal _)
  carried-done after r (grants h) =
      kind-is 6 _ h.kind
      (session-is _ s _ _ _ (there-is _ _ _ h.actor)
      ∙ item-is _ s _ _ (c.each_item p.target h.there)
      ∙ tested-all _ s _ (lt-ltb _ _ h.permission, (h.allowed, tt)))
      (done-refusal _)

module _ (m : Model) (bytes : Bytes m) (s : Lent) (t : State) (c : Codes m s t) (row : ℕ) where
  abbrev step : Step
  step = step_of (parts_of row)

  row-happens : {C : Type 0} → (step_in m s row).refusal ≡ none → ((parts_of row).spare ≡ 0 → Happens m s t step (step_in m s row) → C) → C
  unfolding step_in
  row-happens e k =
      tested-done _ s _ e λ h q.
      let d : (by_kind m s step step.kind).refusal ≡ none = sym (ap (λ (a : After). a.refusal) q) ∙ e in
      k (eqb-true _ _ h.0) (subst (λ (a : After). Happens m s t step a) (sym q) (kind-happens m bytes s t c step step.kind refl d))

  row_done : (after : State) → (parts_of row).spare ≡ 0 → Room s step → Carried m t step after → (step_in m s row).refusal ≡ none
  unfolding step_in
  row_done after z r d = ap (λ (a : After). a.refusal) (tested-all _ s _ (eq-eqb _ _ z, tt)) ∙ carried-done m bytes s t c step after r d

  same_after : (a b : State) → Carried m t step a → Carried m t step b → a ≡ b
  same_after a b x y = let e : some a ≡ some b = sym (carried-stepped m t step a x) ∙ carried-stepped m t step b y in let r : a ≡ b = cc in r

  pub table_step : TableStep m s t row
  table_step =
      record {
        carried = (
          λ e. row-happens e λ z h. (z, h.room, (h.after, h.carried)),
          λ x. row_done x.2.0 x.0 x.1 x.2.1,
        );
        codes = λ after d e. row-happens e λ z h. subst (λ (u : State). Codes m (step_in m s row).lent u) (same_after h.after after h.carried d) h.codes;
        refused = kept_step m s row;
      }
