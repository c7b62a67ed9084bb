-- The search of items is what an item that is asked about can have. In order: links and starts; one item; any item; how many values; the same search,
-- where a user is named for each helper's value.
use mathlib.Core.Path.{◌≡◌, refl, sym, ◌∙◌}
use mathlib.Core.Bool.{Bool, true, false}
use mathlib.Core.Logic.{inl, inr, ◌↔◌}
use mathlib.Core.List.{List}
use Prim.Native.Nat.{ℕ, ◌+◌, ◌≤◌, ◌<◌}
use native.Mathlib.Omega.{arith}
use lib.ListN.{length, get_or}
use Rattle.lanes.specs.Lanes.{lane_of}
use Rattle.runs.specs.Model.{Model}
use Rattle.runs.specs.State.{State, item_at}
use Rattle.runs.specs.Grant.{Which, item, anything}
use Rattle.runs.specs.Reach.{Star, base, more, Reach, MadeWith, ModifiedTo, WhichReach, AskedWhich}
use Rattle.runs.specs.Outcome.{Below}
use Rattle.runs.proofs.Laws.{item_at-is}
use Rattle.verdict.specs.Verdict.{which_can, values}
use Rattle.verdict.proofs.Below.{not-both, bool_same}
use Rattle.verdict.proofs.Decided.{star-map, makes-with, modifies-to, reach-below, which-below, which_can-is}
use Rattle.search.specs.Items.{one_found, any_found}
use Rattle.search.specs.Searched.{Link, root, link, Good, Searched}
use Rattle.search.specs.Claims.{Modify, Begun}
use Rattle.search.specs.declared.queue.Found.{Found}
use Rattle.search.proofs.Paths.{chain}
use Rattle.search.proofs.Theorems.{one-item-is-searched, any-item-is-searched, searched-is-closure}
use Rattle.leak.specs.Standing.{WhichAimed}
use Rattle.leak.proofs.Leaks.{one-good}
use Rattle.user_results.specs.Found.{UsersFound, any_has}
use Rattle.user_results.proofs.UsersReach.{count-narrow, any-is}

-- a session's value is in the lists
pub reach-listed : (m : Model) {u v : ℕ} → Reach m u v → m.session_value v ≡ true
reach-listed m (base h) = h.1
reach-listed m (more r e) = e.0

-- a search of the items that are asked about
pub record ItemSearch (m : Model) (start : State) (users : List Found) (which : Which) (q : Found) : Type 0 where
  pub good : Good (Begun m (any_has users) start.items) (Modify m (any_has users)) q
  pub lane : (o : ℕ) → o < 256 → (lane_of q.seen o ≡ true) ↔ WhichReach m start which o
  pub aimed : (pos : ℕ) → pos < q.len → WhichAimed q pos which

module _ (m : Model) (start : State) (n k : ℕ) (B : Below m start n k) (hn : n ≤ 256) (hk : k ≤ 256) (few : m.users ≤ 16) (users : List Found) (found : UsersFound m users) where
  -- helpers are sessions of some user
  modify-to : (o p : ℕ) → ((via : ℕ) × Modify m (any_has users) o via p) → ModifiedTo m o p
  modify-to o p (v, (l, t, s, e)) =
      let (u, r) = (any-is m start n k B hn few users found v l).0 t in
      let (a, c) = (modifies-to m v o p).0 e in
      (u, v, r, a, c)

  to-modify : (o p : ℕ) → ModifiedTo m o p → (via : ℕ) × Modify m (any_has users) o via p
  to-modify o p (u, v, r, a, c) =
      let l : v < 256 = omega (arith, hn, (reach-below m start n k B r).1) in
      (v, (l, (any-is m start n k B hn few users found v l).1 (u, r), reach-listed m r, (modifies-to m v o p).1 (a, c)))

  modify-byte : (x via v : ℕ) → Modify m (any_has users) x via v → v < 256
  modify-byte x via v e = omega (arith, hk, B.items v ((modifies-to m via x v).0 e.3).0)

  start-byte : (j : ℕ) → j < length start.items → get_or start.items j 0 < 256
  start-byte j h = let e = item_at-is start j in omega (arith, hk, e, B.starting j h)

  begun-byte : (via v : ℕ) → Begun m (any_has users) start.items via v → v < 256
  begun-byte via v (inl (j, l, e, z)) = omega (arith, z, start-byte j l)
  begun-byte via v (inr (l, t, s, e)) = omega (arith, hk, B.items v ((makes-with m via v).0 e).0)

  module _ (j : ℕ) (h : j < length start.items) (small : length start.items ≤ 32) where
    abbrev One : ℕ → ℕ → Type 0
    One via o = (via ≡ 256 + j) × (o ≡ get_or start.items j 0)

    abbrev one : Found
    one = one_found m (any_has users) j (get_or start.items j 0)

    one-searched : Searched One (Modify m (any_has users)) one
    one-searched = one-item-is-searched m (any_has users) j (get_or start.items j 0) (start-byte j h) (omega arith)

    one_lane : (o : ℕ) → o < 256 → (lane_of one.seen o ≡ true) ↔ WhichReach m start (item j) o
    one_lane o l =
        let i : item_at start j ≡ get_or start.items j 0 = item_at-is start j in
        let c = searched-is-closure One (Modify m (any_has users)) one one-searched (λ via v (e, z). omega (arith, z, start-byte j h)) modify-byte o l in (
          λ t. star-map (λ x (via, (e, z)). i ∙ sym z) (λ x y e. modify-to x y e) (c.0 t),
          λ r. c.1 (star-map (λ x e. (256 + j, (refl, sym e ∙ i))) (λ x y e. to-modify x y e) r),
        )

    pub one-search : ItemSearch m start users (item j) one
    one-search = record {
      good = one-good m (any_has users) start.items j h one one-searched.good;
      lane = one_lane;
      aimed = λ pos l. (chain One (Modify m (any_has users)) one one-searched.good pos l).begins.0;
    }

  -- what comes from any start
  abbrev Any : ℕ → Type 0
  Any = Star (λ x. (via : ℕ) × Begun m (any_has users) start.items via x) (λ x y. (via : ℕ) × Modify m (any_has users) x via y)

  any_step : {x o : ℕ} → WhichReach m start anything x → ModifiedTo m x o → WhichReach m start anything o
  any_step (inl r) e = inl (more r e)
  any_step (inr (j, l, r)) e = inr (j, l, more r e)

  any-base : (o via : ℕ) → Begun m (any_has users) start.items via o → WhichReach m start anything o
  any-base o via (inl (j, l, e, z)) = inr (j, l, base (item_at-is start j ∙ sym z))
  any-base o via (inr (l, t, s, e)) =
      let (u, r) = (any-is m start n k B hn few users found via l).0 t in
      let (a, c) = (makes-with m via o).0 e in
      inl (base (u, via, r, a, c))

  any-which : {o : ℕ} → Any o → WhichReach m start anything o
  any-which {o} (base (via, s)) = any-base o via s
  any-which {o} (more {x} r e) = any_step (any-which r) (modify-to x o e)

  made-begun : (o : ℕ) → MadeWith m o → (via : ℕ) × Begun m (any_has users) start.items via o
  made-begun o (u, v, r, a, c) =
      let l : v < 256 = omega (arith, hn, (reach-below m start n k B r).1) in
      (v, inr (l, (any-is m start n k B hn few users found v l).1 (u, r), reach-listed m r, (makes-with m v o).1 (a, c)))

  which-any : {o : ℕ} → WhichReach m start anything o → Any o
  which-any (inl r) = star-map (λ x s. made-begun x s) (λ x y e. to-modify x y e) r
  which-any (inr (j, l, r)) = star-map (λ x e. (256 + j, inl (j, l, refl, sym e ∙ item_at-is start j))) (λ x y e. to-modify x y e) r

  module _ (small : length start.items ≤ 32) where
    any-searched : Searched (Begun m (any_has users) start.items) (Modify m (any_has users)) (any_found m (any_has users) start.items)
    any-searched = any-item-is-searched m (any_has users) start.items (omega arith) start-byte

    pub any-search : ItemSearch m start users anything (any_found m (any_has users) start.items)
    any-search = record {
      good = any-searched.good;
      lane = λ o l.
          let c = searched-is-closure _ _ (any_found m (any_has users) start.items) any-searched begun-byte modify-byte o l in
          (λ t. any-which (c.0 t), λ r. c.1 (which-any r));
      aimed = λ pos l. tt;
    }

  module _ (which : Which) (a : AskedWhich m start which) (q : Found) (I : ItemSearch m start users which q) where
    lane-can : (o : ℕ) → o < 256 → lane_of q.seen o ≡ which_can m start n k which o
    lane-can o l =
        bool_same (lane_of q.seen o) (which_can m start n k which o) (λ t. (which_can-is m start n k B which o a).1 ((I.lane o l).0 t))
        (λ t. (I.lane o l).1 ((which_can-is m start n k B which o a).0 t))

    pub values_agree : q.len ≡ values m start n k which
    unfolding values
    values_agree =
        I.good.placed.counted
        ∙ count-narrow (lane_of q.seen) (which_can m start n k which) k hk (λ o l. lane-can o (omega arith))
        (λ o l h. bool_same (lane_of q.seen o) false (λ t. absurd (omega (arith, which-below m start n k B which o a ((I.lane o h).0 t)))) (λ t. not-both refl t))

-- a helper's value is tested below 256 only
pub good-as : (m : Model) (f g : ℕ → Bool) (items : List ℕ) (q : Found) → ((v : ℕ) → v < 256 → f v ≡ g v) → Good (Begun m f items) (Modify m f) q → Good (Begun m g items) (Modify m g) q
good-as m f g items q e G = record { sized = G.sized; placed = G.placed; linked = λ i l. go i (G.linked i l); shallow = G.shallow }
  where
    begun : (via o : ℕ) → Begun m f items via o → Begun m g items via o
    begun via o (inl s) = inl s
    begun via o (inr (l, t, s, z)) = inr (l, sym (e via l) ∙ t, s, z)

    go : (i : ℕ) → Link (Begun m f items) (Modify m f) q i → Link (Begun m g items) (Modify m g) q i
    go i (root a b s) = root a b (begun _ _ s)
    go i (link p a b c (l, t, s, z)) = link p a b c (l, sym (e _ l) ∙ t, s, z)
