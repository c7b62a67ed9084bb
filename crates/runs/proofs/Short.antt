-- A leak in as many rows as there are values: each closure is gone through by fewer edges than it has values.
-- In order: a session's edges; an item's edges, each with few rows; the rows for the session and for the item; the leak.
use mathlib.Core.Path.{◌≡◌}
use mathlib.Core.Logic.{inl, inr}
use Prim.Native.Nat.{ℕ, suc, ◌+◌, ◌*◌, ◌≤◌, ◌<◌}
use native.Mathlib.Nat.{suc-mul, mul-le-mul_right}
use native.Mathlib.Omega.{arith}
use Rattle.runs.specs.Model.{Model}
use Rattle.runs.specs.State.{State, item_at}
use Rattle.runs.specs.Grant.{Who, session, user, anyone, Which, item, anything}
use Rattle.runs.specs.Reach.{Star, base, more, OpenedWith, ChangedTo, Reach, ReachFrom, MadeWith, ModifiedTo, ItemFrom, ItemMade, Brought, WhoReach, WhichReach, AskedWhich, Risk}
use Rattle.runs.specs.Outcome.{Below, LeakWithin}
use Rattle.runs.proofs.Bring.{edges, item_rows, no_rows, make_rows}
use Rattle.runs.proofs.Shorten.{shorten}
use Rattle.runs.proofs.Decide.{which_rows, who_rows, risk-within}

module _ (m : Model) (start : State) (b : Brought m start) (n k : ℕ) (w : Below m start n k) where
  reach-below : {u v : ℕ} → Reach m u v → v < n
  reach-below {v = v} (base h) = w.sessions v h.1
  reach-below {v = v} (more r e) = w.sessions v e.0

  short-reach : (u v : ℕ) → Reach m u v → (r : Reach m u v) × (suc (edges r) ≤ n)
  short-reach u v r = shorten (OpenedWith m u) (ChangedTo m u) n (λ x h. w.sessions x h.1) (λ x y e. w.sessions y e.0) r

  short-from : (u held v : ℕ) → held < n → ReachFrom m u held v → (r : ReachFrom m u held v) × (suc (edges r) ≤ n)
  short-from u held v l r = shorten (λ x. held ≡ x) (ChangedTo m u) n (λ x e. rw e at l) (λ x y e. w.sessions y e.0) r

  -- with few edges of the session
  abbrev FewModified : ℕ → ℕ → Type 0
  FewModified o p = (e : ModifiedTo m o p) × (suc (edges e.2) ≤ n)

  abbrev FewMade : ℕ → Type 0
  FewMade o = (e : MadeWith m o) × (suc (edges e.2) ≤ n)

  few-modified : (o p : ℕ) → ModifiedTo m o p → FewModified o p
  few-modified o p (u, v, r, a, c) = let (q, l) = short-reach u v r in ((u, v, q, a, c), l)

  few-made : (o : ℕ) → MadeWith m o → FewMade o
  few-made o (u, v, r, a, c) = let (q, l) = short-reach u v r in ((u, v, q, a, c), l)

  -- each edge with few rows
  few : {S T : ℕ → Type 0} → ((o : ℕ) → S o → T o) → {o : ℕ} → Star S (ModifiedTo m) o → Star T FewModified o
  few f {o} (base h) = base (f o h)
  few f {o} (more {x} r e) = more (few f r) (few-modified x o e)

  -- the rows of few edges, each with few rows
  rows : {S T : ℕ → Type 0} (f : (o : ℕ) → T o → S o) (first : (o : ℕ) → S o → ℕ) (c : ℕ) → ((o : ℕ) (h : T o) → first o (f o h) ≤ c)
      → {o : ℕ} (r : Star T FewModified o) → (q : Star S (ModifiedTo m) o) × (item_rows m first q ≤ c + edges r * (n + 1))
  unfolding item_rows edges
  rows f first c l {o} (base h) = (base (f o h), omega (arith, l o h))
  rows f first c l {o} (more r (e, i)) =
      let (q, j) = rows f first c l r in
      (more q e, omega (arith, suc-mul (edges r) (n + 1)))

  short-item : (held o : ℕ) → held < k → ItemFrom m held o → (r : ItemFrom m held o) × (item_rows m (no_rows m) r ≤ k * (n + 1))
  short-item held o l r =
      let (p, i) = shorten (λ x. held ≡ x) FewModified k (λ x e. rw e at l) (λ x y e. w.items y e.0.3) (few (λ x e. e) r) in
      let (q, j) = rows (λ x e. e) (no_rows m) 0 (λ x e. omega arith) p in
      let h : edges p ≤ k = omega arith in
      (q, omega (arith, mul-le-mul_right (n + 1) h))

  short-made : (o : ℕ) → ItemMade m o → (r : ItemMade m o) × (item_rows m (make_rows m) r ≤ k * (n + 1))
  short-made o r =
      let (p, i) = shorten FewMade FewModified k (λ x e. w.items x e.0.3) (λ x y e. w.items y e.0.3) (few few-made r) in
      let (q, j) = rows (λ x e. e.0) (make_rows m) (n + 1) (λ x e. omega (arith, e.1)) p in
      (q, omega (arith, suc-mul (edges p) (n + 1), mul-le-mul_right (n + 1) i))

  short-which : (which : Which) (o : ℕ) → AskedWhich m start which → WhichReach m start which o → (r : WhichReach m start which o) × (which_rows m start which o r ≤ k * (n + 1))
  short-which (item j) o c r = short-item (item_at start j) o (w.starting j c) r
  short-which anything o c (inl r) = let (q, l) = short-made o r in (inl q, l)
  short-which anything o c (inr (j, h, r)) = let (q, l) = short-item (item_at start j) o (w.starting j h) r in (inr (j, h, q), l)

  short-who : (who : Who) (u v : ℕ) → WhoReach m start who u v → (r : WhoReach m start who u v) × (who_rows m start who u v r ≤ n)
  short-who (session j) u v (held, e, r) = let (q, l) = short-from u held v (reach-below (b j u held e)) r in ((held, e, q), omega arith)
  short-who (user a) u v (e, r) = let (q, l) = short-reach u v r in ((e, q), l)
  short-who anyone u v r = short-reach u v r

  pub short-leak : (who : Who) (which : Which) (permission : ℕ) → AskedWhich m start which → Risk m start who which permission → LeakWithin m start who which permission (n + k * (n + 1) + 1)
  short-leak who which permission c r =
      let (p, i) = short-which which r.content c r.target in
      let (q, j) = short-who who r.owner r.held r.actor in
      let z : Risk m start who which permission
      = record { owner = r.owner; held = r.held; content = r.content; actor = q; target = p; known = r.known; allowed = r.allowed }
      in
      let l = risk-within m start who which permission c z in
      record { steps = l.steps; last = l.last; before = l.before; carried = l.carried; fits = l.fits; short = omega (arith, l.short) }
