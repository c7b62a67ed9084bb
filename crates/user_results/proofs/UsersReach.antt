-- The users' searches are what their sessions can have. In order: counting below two numbers; one user's search; some user's; pairs; starting
-- sessions.
use mathlib.Core.Path.{◌≡◌, refl, sym, ap, ◌∙◌}
use mathlib.Core.Bool.{Bool, true, false, cond}
use mathlib.Core.Logic.{◌↔◌}
use mathlib.Core.List.{List, [], ◌∷◌, map}
use Prim.Native.Nat.{ℕ, zero, suc, ◌+◌, ◌-◌, ◌≤◌, ◌<◌}
use native.Mathlib.Decide.{dec_lt}
use native.Mathlib.Omega.{arith}
use borrow.Author.Tests.{lt-ltb, le-ltb}
use lib.ListN.{length, get_or}
use Rattle.lanes.specs.Lanes.{lane_of, count_below}
use Rattle.lanes.proofs.Counts.{count-split, count-ext}
use Rattle.policy.specs.Policy.{Session}
use Rattle.runs.specs.Model.{Model}
use Rattle.runs.specs.State.{opened, State}
use Rattle.runs.specs.Edge.{opens_with}
use Rattle.runs.specs.Reach.{Reach}
use Rattle.runs.specs.Outcome.{Below}
use Rattle.verdict.specs.Closure.{in_table}
use Rattle.verdict.specs.Verdict.{reached, all_brought, pairs}
use Rattle.verdict.proofs.Below.{not-both, bool_same, some_below_lem}
use Rattle.verdict.proofs.Decided.{star-map, opens-with, changes-to, reach-below, reached-is}
use Rattle.search.specs.Queue.{nothing}
use Rattle.search.specs.Sessions.{sessions_found}
use Rattle.search.specs.Claims.{Change}
use Rattle.search.specs.declared.queue.Found.{Found}
use Rattle.search.proofs.Turns.{nothing_seen}
use Rattle.search.proofs.Theorems.{sessions-are-searched, searched-is-closure}
use Rattle.user_results.specs.Found.{user_found, UsersFound, any_has, found_pairs, all_found}

count_none : (f : ℕ → Bool) (n : ℕ) → ((i : ℕ) → i < n → f i ≡ false) → count_below f n ≡ 0
unfolding count_below
count_none f zero h = refl
count_none f (suc n) h = rw (h n (omega arith)) (omega (arith, count_none f n (λ i l. h i (omega arith))))

-- f holds of nothing from n on, and is g before
pub count-narrow : (f g : ℕ → Bool) (n : ℕ) → n ≤ 256 → ((v : ℕ) → v < n → f v ≡ g v) → ((v : ℕ) → n ≤ v → v < 256 → f v ≡ false) → count_below f 256 ≡ count_below g n
count-narrow f g n h e z =
    let s : n + (256 - n) ≡ 256 = omega arith in
    let c : count_below f 256 ≡ count_below f (n + (256 - n)) = ap (count_below f) (sym s) in
    omega (arith, c, count-split f n (256 - n), count-ext f g n e, count_none (λ i. f (n + i)) (256 - n) (λ i l. z (n + i) (omega arith) (omega arith)))

nothing-long : nothing.len ≡ 0
unfolding nothing
nothing-long = refl

module _ (m : Model) (start : State) (n k : ℕ) (B : Below m start n k) (hn : n ≤ 256) where
  -- what a user's search has seen
  pub sessions-lane : (u v : ℕ) → v < 256 → (lane_of (sessions_found m u).seen v ≡ true) ↔ Reach m u v
  sessions-lane u v h =
      let c =
      searched-is-closure (λ via v. opens_with m u v ≡ true) (Change m u) (sessions_found m u) (sessions-are-searched m u)
      (λ via v e. omega (arith, hn, B.sessions v ((opens-with m u v).0 e).1)) (λ x via v e. omega (arith, hn, B.sessions v ((changes-to m u x v).0 e).0)) v h
      in (
        λ t. star-map (λ x s. (opens-with m u x).0 s.1) (λ x y e. (changes-to m u x y).0 e.1) (c.0 t),
        λ r. c.1 (star-map (λ x s. (0, (opens-with m u x).1 s)) (λ x y e. (0, (changes-to m u x y).1 e)) r),
      )

  module _ (few : m.users ≤ 16) (users : List Found) (found : UsersFound m users) where
    pub user-is : (u : ℕ) → u < m.users → user_found users u ≡ sessions_found m u
    user-is u h = found.each u (omega arith) ∙ ap (λ (b : Bool). cond b (sessions_found m u) nothing) (lt-ltb u m.users h)

    user-none : (u : ℕ) → m.users ≤ u → u < 16 → user_found users u ≡ nothing
    user-none u h l = found.each u l ∙ ap (λ (b : Bool). cond b (sessions_found m u) nothing) (le-ltb u m.users h)

    pub user-lane : (u v : ℕ) → u < 16 → v < 256 → lane_of (user_found users u).seen v ≡ true → (u < m.users) × Reach m u v
    user-lane u v l h t = go (dec_lt u m.users)
      where
        go : Dec (u < m.users) → (u < m.users) × Reach m u v
        go (yes i) = (i, (sessions-lane u v h).0 (sym (ap (λ (q : Found). lane_of q.seen v) (user-is u i)) ∙ t))
        go (no i) = not-both (ap (λ (q : Found). lane_of q.seen v) (user-none u (omega arith) l) ∙ nothing_seen v h) t

    pub lane-user : (u v : ℕ) → Reach m u v → lane_of (user_found users u).seen v ≡ true
    lane-user u v r =
        let (i, l) = reach-below m start n k B r in
        ap (λ (q : Found). lane_of q.seen v) (user-is u i) ∙ (sessions-lane u v (omega arith)).1 r

    -- the searches are the closures that are computed
    lane-reached : (u v : ℕ) → u < m.users → v < 256 → lane_of (user_found users u).seen v ≡ in_table (reached m n u) v
    lane-reached u v i h =
        bool_same (lane_of (user_found users u).seen v) (in_table (reached m n u) v)
        (λ t. (reached-is m start n k B u v).1 (user-lane u v (omega arith) h t).1) (λ t. lane-user u v ((reached-is m start n k B u v).0 t))

    pub any-is : (v : ℕ) → v < 256 → (any_has users v ≡ true) ↔ ((u : ℕ) × Reach m u v)
    unfolding any_has
    any-is v h = (
      λ t. let (u, i, s) = (some_below_lem (λ u. lane_of (user_found users u).seen v) 16).0 t in (u, (user-lane u v i h s).1),
      λ p. (some_below_lem (λ u. lane_of (user_found users u).seen v) 16).1 (p.0, omega (arith, few, (reach-below m start n k B p.1).0), lane-user p.0 v p.1),
    )

    -- how many values a user's search has found
    user-long : (u : ℕ) → u < m.users → (user_found users u).len ≡ count_below (in_table (reached m n u)) n
    user-long u i =
        ap (λ (q : Found). q.len) (user-is u i) ∙ (sessions-are-searched m u).good.placed.counted
        ∙ ap (λ (q : Found). count_below (lane_of q.seen) 256) (sym (user-is u i))
        ∙ count-narrow (lane_of (user_found users u).seen) (in_table (reached m n u)) n hn (λ v l. lane-reached u v i (omega arith))
        (λ v l h. lane-reached u v i h ∙ bool_same (in_table (reached m n u) v) false
        (λ t. absurd (omega (arith, (reach-below m start n k B ((reached-is m start n k B u v).0 t)).1))) (λ t. not-both refl t))

    pairs-upto : (u : ℕ) → u ≤ m.users → found_pairs users u ≡ pairs m n u
    unfolding found_pairs pairs
    pairs-upto zero h = refl
    pairs-upto (suc u) h = omega (arith, pairs-upto u (omega arith), user-long u (omega arith))

    pairs-past : (d : ℕ) → m.users + d ≤ 16 → found_pairs users (m.users + d) ≡ pairs m n m.users
    unfolding found_pairs
    pairs-past zero h = let e : m.users + 0 ≡ m.users = omega arith in rw e (pairs-upto m.users (omega arith))
    pairs-past (suc d) h =
        let e : m.users + suc d ≡ suc (m.users + d) = omega arith in
        let z : (user_found users (m.users + d)).len ≡ 0 = ap (λ (q : Found). q.len) (user-none (m.users + d) (omega arith) (omega arith)) ∙ nothing-long in
        rw e (omega (arith, pairs-past d (omega arith), z))

    pub pairs-agree : found_pairs users 16 ≡ pairs m n m.users
    pairs-agree = let e : m.users + (16 - m.users) ≡ 16 = omega arith in rw e at (pairs-past (16 - m.users) (omega arith))

    -- the starting sessions
    pub all-agree : (l : List Session) → ((j : ℕ) → j < length l → ((get_or l j record { user = 0; value = 0 }).user < m.users) × ((get_or l j record { user = 0; value = 0 }).value < 256))
        → all_found users l ≡ all_brought m n (map (λ (x : ℕ × ℕ). opened x.0 x.1) (map (λ (t : Session). (t.user, t.value)) l))
    unfolding all_found all_brought
    all-agree [] h = refl
    all-agree (t ∷ l) h =
        let (i, b) = h 0 (omega arith) in
        rw (lane-reached t.user t.value i b, all-agree l (λ j z. h (suc j) (omega arith))) refl
