-- There is a hit exactly where the verdict is a leak. In order: the first of which a test holds; what a hit says; a hit is a granted pair of the
-- closures; a granted pair gives a hit.
use mathlib.Core.Path.{◌≡◌, sym, ap, ◌∙◌, subst}
use mathlib.Core.Bool.{Bool, true, not, ◌&&◌}
use mathlib.Core.Logic.{◌↔◌}
use mathlib.Core.List.{List}
use Prim.Native.Nat.{ℕ, ◌-◌, ◌≤◌, ◌<◌}
use native.Mathlib.Decide.{dec_lt}
use native.Mathlib.Omega.{arith}
use borrow.Author.Tests.{ltb-true, lt-ltb, ne_eqb}
use lib.Dec.{ltb}
use Rattle.lanes.specs.Lanes.{lane_of, first_from}
use Rattle.lanes.proofs.Laws.{first-here, first-before}
use Rattle.runs.specs.Model.{Model}
use Rattle.runs.specs.State.{State}
use Rattle.runs.specs.Edge.{accesses}
use Rattle.runs.specs.Grant.{Who, session, user, anyone, Which}
use Rattle.runs.specs.Reach.{base, more, ReachFrom, Brought, WhoReach, AskedWhich, Risk}
use Rattle.runs.specs.Outcome.{Below}
use Rattle.verdict.specs.Verdict.{leaks}
use Rattle.verdict.proofs.Below.{not-both, both, both_of, bool_same}
use Rattle.verdict.proofs.Decided.{accesses-is, which-below, who-below, leaks-is}
use Rattle.search.specs.Searched.{value_at, place_at, Good}
use Rattle.search.specs.declared.queue.Found.{Found}
use Rattle.search.proofs.Paths.{seen-place}
use Rattle.hits.specs.Hits.{hit_value, hit_place}
use Rattle.analyser.proofs.ItemsReach.{reach-listed, ItemSearch}

-- where a test holds of some number below n, the first is below n
first_under : (f : ℕ → Bool) (n i : ℕ) → i < n → f i ≡ true → first_from f 0 n < n
first_under f n i h t = go (dec_lt (first_from f 0 n) n)
  where
    go : Dec (first_from f 0 n < n) → first_from f 0 n < n
    go (yes l) = l
    go (no l) = not-both (first-before f 0 n i (omega arith) (omega arith)) t

-- a session that is asked about has values that are in the lists
who-listed : (m : Model) (start : State) → Brought m start → (who : Who) (u v : ℕ) → WhoReach m start who u v → m.session_value v ≡ true
who-listed m start b (session j) u v (held, e, r) = go r
  where
    go : {w : ℕ} → ReachFrom m u held w → m.session_value w ≡ true
    go (base z) = subst (λ (x : ℕ). m.session_value x ≡ true) z (reach-listed m (b j u held e))
    go (more r z) = z.0
who-listed m start b (user a) u v (e, r) = reach-listed m r
who-listed m start b anyone u v r = reach-listed m r

module _ (m : Model) (permission : ℕ) (test : ℕ → Bool) (q : Found) where
  -- the value at place i, and one of a session that has the permission on it
  pub record Hit (i v : ℕ) : Type 0 where
    pub place : i < q.len
    pub byte : v < 256
    pub asked : test v ≡ true
    pub granted : accesses m permission v (value_at q i) ≡ true

  abbrev granting : ℕ → ℕ → Bool
  granting i v = test v && (m.session_value v && accesses m permission v (value_at q i))

  abbrev placed : ℕ → Bool
  placed i = ltb i q.len && ltb (hit_value m permission test q i) 256

  value-here : (i : ℕ) → hit_value m permission test q i < 256 → granting i (hit_value m permission test q i) ≡ true
  unfolding hit_value
  value-here i h = first-here (granting i) 0 256 (omega arith)

  value_of : (i v : ℕ) → Hit i v → m.session_value v ≡ true → hit_value m permission test q i < 256
  unfolding hit_value
  value_of i v h s =
      first_under (granting i) 256 v h.byte
      (both (test v) (m.session_value v && accesses m permission v (value_at q i)) h.asked (both (m.session_value v) (accesses m permission v (value_at q i)) s h.granted))

  pub hit-here : hit_place m permission test q < 256 → Hit (hit_place m permission test q) (hit_value m permission test q (hit_place m permission test q))
  unfolding hit_place
  hit-here l = at (first_from placed 0 256) (first-here placed 0 256 (omega arith))
    where
      at : (i : ℕ) → placed i ≡ true → Hit i (hit_value m permission test q i)
      at i t =
          let (a, c) = both_of (ltb i q.len) (ltb (hit_value m permission test q i) 256) t in
          let h : hit_value m permission test q i < 256 = ltb-true (hit_value m permission test q i) 256 c in
          let v = hit_value m permission test q i in
          let (x, y) = both_of (test v) (m.session_value v && accesses m permission v (value_at q i)) (value-here i h) in
          record { place = ltb-true i q.len a; byte = h; asked = x; granted = (both_of (m.session_value v) (accesses m permission v (value_at q i)) y).1 }

  pub hit-of : (i v : ℕ) → q.len ≤ 256 → Hit i v → m.session_value v ≡ true → hit_place m permission test q < 256
  unfolding hit_place
  hit-of i v few h s = first_under placed 256 i (omega (arith, few, h.place)) (both (ltb i q.len) (ltb (hit_value m permission test q i) 256) (lt-ltb i q.len h.place) (lt-ltb (hit_value m permission test q i) 256 (value_of i v h s)))

-- the value at a place was seen
place-seen : (S : ℕ → ℕ → Type 0) (E : ℕ → ℕ → ℕ → Type 0) (q : Found) → Good S E q → (i : ℕ) → i < q.len → lane_of q.seen (value_at q i) ≡ true
place-seen S E q G i l =
    G.placed.seen (value_at q i) (G.placed.byte i l) ∙ ap not (ne_eqb (place_at q (value_at q i)) 0 (λ z. omega (arith, z, G.placed.here i l)))

module _ (m : Model) (start : State) (n k : ℕ) (B : Below m start n k) (hn : n ≤ 256) (hk : k ≤ 256) (users : List Found) (brought : Brought m start)
    (who : Who) (test : ℕ → Bool) (tests : (v : ℕ) → v < 256 → (test v ≡ true) ↔ ((u : ℕ) × WhoReach m start who u v))
    (which : Which) (asked : AskedWhich m start which) (q : Found) (I : ItemSearch m start users which q) (permission : ℕ) where
  hit-risk : (i v : ℕ) → Hit m permission test q i v → Risk m start who which permission
  hit-risk i v h =
      let (u, r) = (tests v h.byte).0 h.asked in
      let (e, f) = (accesses-is m permission v (value_at q i)).0 h.granted in
      record {
        owner = u;
        held = v;
        content = value_at q i;
        actor = r;
        target = (I.lane (value_at q i) (I.good.placed.byte i h.place)).0 (place-seen _ _ q I.good i h.place);
        known = e;
        allowed = f;
      }

  risk-hit : Risk m start who which permission → hit_place m permission test q < 256
  risk-hit r =
      let v = r.held in
      let o = r.content in
      let b : v < 256 = omega (arith, hn, (who-below m start n k B brought who r.owner v r.actor).1) in
      let l : o < 256 = omega (arith, hk, which-below m start n k B which o asked r.target) in
      let (z, i, e) = seen-place _ _ q I.good o l ((I.lane o l).1 r.target) in
      hit-of m permission test q (place_at q o - 1) v I.good.placed.few
      record {
        place = i;
        byte = b;
        asked = (tests v b).1 (r.owner, r.actor);
        granted = subst (λ (x : ℕ). accesses m permission v x ≡ true) (sym e) ((accesses-is m permission v o).1 (r.known, r.allowed));
      }
      (who-listed m start brought who r.owner v r.actor)

  pub hits-agree : ltb (hit_place m permission test q) 256 ≡ leaks m start n k who which permission
  hits-agree =
      bool_same (ltb (hit_place m permission test q) 256) (leaks m start n k who which permission)
      (λ t. (leaks-is m start n k B brought who which permission asked).1 (hit-risk _ _ (hit-here m permission test q (ltb-true (hit_place m permission test q) 256 t))))
      (λ t. lt-ltb (hit_place m permission test q) 256 (risk-hit ((leaks-is m start n k B brought who which permission asked).0 t)))
