-- What deciding comes to. In order: the rows that were written; where the first leak is; no leak, and a leak.
use mathlib.Core.Path.{◌≡◌, refl, sym, ap, ap₂, ◌∙◌, subst}
use mathlib.Core.List.{List, []}
use Rattle.std.specs.Prelude.{None, Some}
use Prim.Native.Nat.{ℕ, ◌≤◌, ◌<◌}
use native.Mathlib.Omega.{arith}
use lib.ListN.{length, take}
use Rattle.lanes.specs.Lanes.{lane_of, Lanes}
use Rattle.policy.specs.Rules.{policy_of, sessions_of}
use Rattle.policy.specs.declared.Rules.{Rules}
use Rattle.policy.specs.declared.Sessions.{Sessions}
use Rattle.policy.specs.declared.Values.{Values}
use Rattle.runs.specs.Model.{Model}
use Rattle.allowed.specs.Allowed.{model_of}
use Rattle.search.specs.declared.queue.Found.{Found}
use Rattle.session_rows.specs.Writing.{Writing, writing_of, Wrote}
use Rattle.leak.specs.Leak.{leak_written}
use Rattle.session_rows.specs.declared.Pen.{Pen}
use Rattle.leak.specs.declared.Aim.{Aim}
use Rattle.replay.specs.declared.question.Question.{Question}
use Rattle.user_results.specs.Found.{any_has, Names, found_pairs}
use Rattle.hits.specs.Hits.{hit_value, hit_place}
use Rattle.hits.specs.declared.Hit.{Hit}
use Rattle.goal.specs.Asked.{item_found, session_found, who_found, aim_of, PenReady}
use Rattle.decision.specs.declared.Decision.{Decision}
use Rattle.decision.specs.Decide.{LeakLeftBy, item_search, own_search, leak_place, leak_value, DecidedBy}
use Rattle.hits.proofs.Laws.{hit-inside, hit-value-ext, hit-place-ext}
use Rattle.goal.proofs.Questions.{who-ext}
use Rattle.goal.proofs.Helpers.{item-ext}

-- the rows that were written
module _ (users : List Found) (starting : Sessions) (items : Values) (q : Question) (found own : Found) (place value : ℕ) (before after : List ℕ)
    (by : List ℕ) (N : Names users by) (pen : Pen) (R : PenReady (sessions_of starting) pen) (aim : Aim) (A : aim ≡ aim_of starting items q value) (end : Pen)
    (written : writing_of end after ≡ leak_written (length before) users by found place own aim (writing_of pen before)) (wrote : Wrote pen before end after) where
  rows_are : take end.at after ≡ (leak_written (length before) users by found place own (aim_of starting items q value) (writing_of pen [])).rows
  rows_are =
      ap (λ (w : Writing). w.rows) written
      ∙ ap (λ (t : Aim). (leak_written (length before) users by found place own t (writing_of pen before)).rows) A
      ∙ ap
      (λ (l : List ℕ).
      (leak_written (length before) users by found place own (aim_of starting items q value) record { rows = l; next = pen.next; number = pen.number; owner = pen.owner }).rows)
      (ap (λ (n : ℕ). take n before) R.at ∙ sym (ap (λ (n : ℕ). take {A = ℕ} n []) R.at))

  pub leak-left : LeakLeftBy users starting items q found own place value before after end.at
  leak-left = record { by = by; pen = pen; names = N; ready = R; front = rows_are; rest = wrote.rest; inside = wrote.inside; long = wrote.long }

-- where the first leak is
module _ (r : Rules) (users : List Found) (q : Question) where
  leak-place : hit_place (model_of (policy_of r)) q.permission (who_found users (any_has users) (own_search r users q) q) (item_search r users q) ≡ leak_place r users q
  unfolding leak_place
  leak-place = refl

  leak-value :
      hit_value (model_of (policy_of r)) q.permission (who_found users (any_has users) (own_search r users q) q) (item_search r users q) (leak_place r users q) ≡ leak_value r users q
  unfolding leak_value
  leak-value = refl

-- the searches and the first hit, of a model m that is the rules'
module _ (r : Rules) (users : List Found) (q : Question) (m : Model) (M : m ≡ model_of (policy_of r)) (helpers : List ℕ) (items own : Found) (who : List ℕ)
    (H : Lanes (any_has users) helpers) (itemed : items ≡ item_found m r.items (lane_of helpers) q) (owned : own ≡ session_found m r.sessions q)
    (W : Lanes (who_found users (lane_of helpers) own q) who) where
  I : items ≡ item_found (model_of (policy_of r)) r.items (lane_of helpers) q
  I = itemed ∙ ap (λ (x : Model). item_found x r.items (lane_of helpers) q) M

  O : own ≡ own_search r users q
  O = owned ∙ ap (λ (x : Model). session_found x r.sessions q) M

  items-are : items ≡ item_search r users q
  items-are = I ∙ item-ext (model_of (policy_of r)) r.items q _ _ H.each

  who-are : (v : ℕ) → v < 256 → lane_of who v ≡ who_found users (any_has users) (own_search r users q) q v
  who-are v h = W.each v h ∙ who-ext users (lane_of helpers) (any_has users) own q v (H.each v h) ∙ ap (λ (o : Found). who_found users (any_has users) o q v) O

  place_is : hit_place m q.permission (lane_of who) items ≡ leak_place r users q
  place_is =
      ap (λ (x : Model). hit_place x q.permission (lane_of who) items) M ∙ hit-place-ext (model_of (policy_of r)) q.permission items _ _ who-are
      ∙ ap (λ (i : Found). hit_place (model_of (policy_of r)) q.permission (who_found users (any_has users) (own_search r users q) q) i) items-are ∙ leak-place r users q

  module _ (before : List ℕ) (d : Decision) (pairs : d.pairs ≡ found_pairs users 16) (values : d.values ≡ items.len) where
    -- there is no hit
    pub decided-safe : d.leak ≡ None → hit_place m q.permission (lane_of who) items ≡ 256 → DecidedBy r users q before before d
    decided-safe v e =
        let far : 256 ≤ leak_place r users q = omega (arith, place_is) in
        record { pairs = pairs; values = values ∙ ap (λ (i : Found). i.len) items-are; leak = rw v (far, refl) }

  -- there is one
  module _ (hit : Hit) (at : (hit.place ≡ hit_place m q.permission (lane_of who) items) × (hit.place < 256) × (hit.value ≡ hit_value m q.permission (lane_of who) items hit.place)) where
    value-is : hit.value ≡ leak_value r users q
    value-is =
        at.2 ∙ ap (λ (x : Model). hit_value x q.permission (lane_of who) items hit.place) M ∙ hit-value-ext (model_of (policy_of r)) q.permission items _ _ who-are hit.place
        ∙ ap₂ (λ (i : Found) (p : ℕ). hit_value (model_of (policy_of r)) q.permission (who_found users (any_has users) (own_search r users q) q) i p) items-are (at.0 ∙ place_is)
        ∙ leak-value r users q

    -- the place is one of the search
    pub place-inside : hit.place < items.len
    place-inside =
        subst (λ (p : ℕ). p < items.len) (sym at.0) (hit-inside m q.permission items (lane_of who) (subst (λ (p : ℕ). p < 256) at.0 at.1))

    pub decided-leak : (before after : List ℕ) (d : Decision) (n : ℕ) → d.pairs ≡ found_pairs users 16 → d.values ≡ items.len → d.leak ≡ Some n
        → LeakLeftBy users r.sessions r.items q items own hit.place hit.value before after n → DecidedBy r users q before after d
    decided-leak before after d n pairs values v L =
        let l : leak_place r users q < 256 = omega (arith, place_is, at.0, at.1) in
        record {
          pairs = pairs;
          values = values ∙ ap (λ (i : Found). i.len) items-are;
          leak = rw v (
            l,
            subst (λ (i : Found). LeakLeftBy users r.sessions r.items q i (own_search r users q) (leak_place r users q) (leak_value r users q) before after n) items-are
                (subst (λ (o : Found). LeakLeftBy users r.sessions r.items q items o (leak_place r users q) (leak_value r users q) before after n) O
                (subst (λ (k : ℕ). LeakLeftBy users r.sessions r.items q items own k (leak_value r users q) before after n) (at.0 ∙ place_is)
                (subst (λ (x : ℕ). LeakLeftBy users r.sessions r.items q items own hit.place x before after n) value-is L))),
          );
        }
