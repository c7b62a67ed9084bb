-- Whatever is within the closures, some steps bring about, all carried out, from any state; and how many rows they take.
-- In order: rows; states that steps lead to; a new session; a session that is there; items, by sessions opened for each change.
use mathlib.Core.Path.{◌≡◌, refl}
use mathlib.Core.List.{List, [], ◌∷◌, ◌++◌, append_assoc, append-nil}
use Prim.Native.Nat.{ℕ, suc, ◌+◌, ◌≤◌, ◌<◌}
use native.Mathlib.Omega.{arith}
use lib.ListN.{length, set, length-append, length-set}
use lib.Seq.{set-append_seam, set-set}
use Rattle.runs.specs.Model.{Model}
use Rattle.runs.specs.State.{Session, opened, Item, State, session_at, item_at}
use Rattle.runs.specs.Step.{Step, Carried, opens, changes, makes, modifies}
use Rattle.runs.specs.Stepped.{stepped}
use Rattle.runs.specs.Run.{or_same, run}
use Rattle.runs.specs.Reach.{Star, base, more, Reach, ReachFrom, MadeWith, ModifiedTo, ItemFrom, ItemMade}
use Rattle.runs.specs.Outcome.{CarriedAll, stop, then}
use Rattle.runs.proofs.Laws.{state, session_at-added, session_at-set, set-session_at, item_at-same, item_at-added, item_at-set, set-item_at, carried-stepped, or_same-some, run_end, run-next}

abbrev pub row : ℕ → ℕ → ℕ → ℕ → Step
row k a t v = record { kind = k; actor = a; target = t; value = v }

-- the number of edges
unfoldable pub edges : {S : ℕ → Type 0} {E : ℕ → ℕ → Type 0} {v : ℕ} → Star S E v → ℕ
edges (base h) = 0
edges (more r e) = suc (edges r)

module _ (m : Model) where
  -- the rows for an item: an opening, its changes and the item's own row, for each edge
  unfoldable pub item_rows : {S : ℕ → Type 0} → ((o : ℕ) → S o → ℕ) → {o : ℕ} → Star S (ModifiedTo m) o → ℕ
  item_rows first {o} (base h) = first o h
  item_rows first (more r e) = item_rows first r + suc (suc (edges e.2))

  abbrev pub no_rows : {held : ℕ} (o : ℕ) → held ≡ o → ℕ
  no_rows o e = 0

  abbrev pub make_rows : (o : ℕ) → MadeWith m o → ℕ
  make_rows o e = suc (suc (edges e.2))

  pub append-carried : {s t after : State} {ps qs : List Step} → CarriedAll m s ps t → CarriedAll m t qs after → CarriedAll m s (ps ++ qs) after
  append-carried stop q = q
  append-carried (then d p) q = then d (append-carried p q)

  carried_same : (s after : State) (p : Step) → Carried m s p after → or_same s (stepped m s p) ≡ after
  carried_same s after p d = rw (carried-stepped m s p after d) (or_same-some m s after)

  pub carried-run : {s after : State} {ps : List Step} → CarriedAll m s ps after → run m s ps ≡ after
  carried-run (stop {s}) = run_end m s
  carried-run (then {s} {next} {p = p} {ps = ps} d r) = rw (run-next m s p ps, carried_same s next p d) (carried-run r)

  -- at most n steps lead from s to after
  pub record Leads (n : ℕ) (s after : State) : Type 0 where
    pub steps : List Step
    pub carried : CarriedAll m s steps after
    pub short : length steps ≤ n

  pub leads-nowhere : (s : State) → Leads 0 s s
  leads-nowhere s = record { steps = []; carried = stop; short = omega arith }

  pub leads-on : {n k : ℕ} {s t after : State} → Leads n s t → Leads k t after → Leads (n + k) s after
  leads-on p q = record { steps = p.steps ++ q.steps; carried = append-carried p.carried q.carried; short = rw length-append (omega arith) }

  leads_one : {s after : State} {p : Step} → Carried m s p after → Leads 1 s after
  leads_one {p = p} d = record { steps = p ∷ []; carried = then d stop; short = omega arith }

  pub leads-within : {n k : ℕ} {s after : State} → n ≤ k → Leads n s after → Leads k s after
  leads-within h p = record { steps = p.steps; carried = p.carried; short = omega arith }

  pub bring-new : {u v : ℕ} (r : Reach m u v) (s : State) → Leads (suc (edges r)) s (state (s.sessions ++ opened u v ∷ []) s.items)
  unfolding edges
  bring-new {u} {v} (base h) s =
      let d : Carried m s (row 1 u (length s.sessions) v) (state (s.sessions ++ opened u v ∷ []) s.items)
      = opens record { kind = refl; user = h.0; next = refl; listed = h.1; allowed = h.2; state = refl }
      in
      leads_one d
  bring-new {u} {v} (more {x} r e) s =
      let d : Carried m (state (s.sessions ++ opened u x ∷ []) s.items) (row 3 u (length s.sessions) v) (state (s.sessions ++ opened u v ∷ []) s.items)
      = changes record { kind = refl; held = x; owner = session_at-added s u x; listed = e.0; allowed = e.1; state = rw set-append_seam refl }
      in
      leads-within (omega arith) (leads-on (bring-new r s) (leads_one d))

  pub bring-session : (s : State) (k u held : ℕ) → session_at s k ≡ opened u held → {v : ℕ} (r : ReachFrom m u held v) → Leads (edges r) s (state (set s.sessions k (opened u v)) s.items)
  unfolding edges
  bring-session s k u held q (base e) =
      let l : set s.sessions k (opened u held) ≡ s.sessions = set-session_at s k (opened u held) q in
      rw (← e, l) (leads-nowhere s)
  bring-session s k u held q {v} (more {x} r e) =
      let d : Carried m (state (set s.sessions k (opened u x)) s.items) (row 3 u k v) (state (set s.sessions k (opened u v)) s.items)
      = changes
      record {
        kind = refl;
        held = x;
        owner = session_at-set s k u held x q;
        listed = e.0;
        allowed = e.1;
        state = rw set-set refl;
      }
      in
      leads-within (omega arith) (leads-on (bring-session s k u held q r) (leads_one d))

  -- at most n steps lead from s to a state with more sessions at the end, and these items
  pub record Widens (n : ℕ) (s : State) (items : List Item) : Type 0 where
    pub added : List Session
    pub to : Leads n s (state (s.sessions ++ added) items)

  widens-nowhere : (s : State) → Widens 0 s s.items
  widens-nowhere s = record { added = []; to = rw append-nil (leads-nowhere s) }

  widens-on : {n k : ℕ} {s : State} {is js : List Item} → Widens n s is → ((added : List Session) → Widens k (state (s.sessions ++ added) is) js) → Widens (n + k) s js
  widens-on p f = let q = f p.added in record { added = p.added ++ q.added; to = leads-on p.to (rw append_assoc at q.to) }

  widens-within : {n k : ℕ} {s : State} {is : List Item} → n ≤ k → Widens n s is → Widens k s is
  widens-within h p = record { added = p.added; to = leads-within h p.to }

  modify-item : (s : State) (k held : ℕ) → k < length s.items → item_at s k ≡ held → (o : ℕ) (e : ModifiedTo m held o) → Widens (suc (suc (edges e.2))) s (set s.items k o)
  modify-item s k held hk q o e =
      let u = e.0 in
      let v = e.1 in
      let d : Carried m (state (s.sessions ++ opened u v ∷ []) s.items) (row 5 (length s.sessions) k o) (state (s.sessions ++ opened u v ∷ []) (set s.items k o))
      = modifies record { kind = refl; user = u; held = v; actor = session_at-added s u v; there = hk; listed = e.3; allowed = rw (item_at-same s (s.sessions ++ opened u v ∷ []) k, q) e.4; state = refl }
      in
      record { added = opened u v ∷ []; to = leads-within (omega arith) (leads-on (bring-new e.2 s) (leads_one d)) }

  make-item : (s : State) (o : ℕ) (e : MadeWith m o) → Widens (make_rows o e) s (s.items ++ o ∷ [])
  make-item s o e =
      let u = e.0 in
      let v = e.1 in
      let d : Carried m (state (s.sessions ++ opened u v ∷ []) s.items) (row 4 (length s.sessions) (length s.items) o) (state (s.sessions ++ opened u v ∷ []) (s.items ++ o ∷ []))
      = makes record { kind = refl; user = u; held = v; actor = session_at-added s u v; next = refl; listed = e.3; allowed = e.4; state = refl }
      in
      record { added = opened u v ∷ []; to = leads-within (omega arith) (leads-on (bring-new e.2 s) (leads_one d)) }

  pub bring-item : (s : State) (k held : ℕ) → k < length s.items → item_at s k ≡ held → {o : ℕ} (r : ItemFrom m held o) → Widens (item_rows no_rows r) s (set s.items k o)
  unfolding item_rows
  bring-item s k held hk q (base e) =
      let l : set s.items k held ≡ s.items = set-item_at s k held q in
      rw (← e, l) (widens-nowhere s)
  bring-item s k held hk q {o} (more {x} r e) =
      widens-on (bring-item s k held hk q r) λ added.
      let t : State = state (s.sessions ++ added) (set s.items k x) in
      let hk' : k < length (set s.items k x) = rw length-set hk in
      rw set-set at (modify-item t k x hk' (item_at-set s (s.sessions ++ added) k x hk) o e)

  pub bring-made : {o : ℕ} (r : ItemMade m o) (s : State) → Widens (item_rows make_rows r) s (s.items ++ o ∷ [])
  unfolding item_rows
  bring-made {o} (base e) s = make-item s o e
  bring-made {o} (more {x} r e) s =
      widens-on (bring-made r s) λ added.
      let t : State = state (s.sessions ++ added) (s.items ++ x ∷ []) in
      let hk : length s.items < length (s.items ++ x ∷ []) = rw length-append (omega arith) in
      rw set-append_seam at (modify-item t (length s.items) x hk (item_at-added s (s.sessions ++ added) x) o e)
