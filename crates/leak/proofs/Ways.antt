-- The rows of a way. In order: how long a search can be; the rows, as a table; a new session, opened and changed along the way; a session that is
-- there, changed along the way.
use mathlib.Core.Path.{◌≡◌, refl}
use mathlib.Core.Bool.{Bool, true, false, cond}
use mathlib.Core.List.{[], ◌∷◌, ◌++◌}
use Prim.Native.Nat.{ℕ, zero, suc, ◌+◌, ◌-◌, ◌≤◌, ◌<◌}
use native.Mathlib.Numerals.{add-one}
use native.Mathlib.Omega.{arith}
use borrow.Author.Tests.{ne_eqb}
use lib.Dec.{eqb}
use lib.ListN.{length, set}
use lib.Seq.{set-append_seam, set-set}
use Rattle.bits.specs.Packed.{tab}
use Rattle.bits.proofs.Packed.{length-tab, tab-zero, tab-first}
use Rattle.lanes.specs.Lanes.{lane_of, count_below}
use Rattle.lanes.proofs.Counts.{count-below-le}
use Rattle.runs.specs.Model.{Model}
use Rattle.runs.specs.State.{opened, State, session_at}
use Rattle.runs.specs.Edge.{opens_with}
use Rattle.runs.specs.Step.{Carried, opens, changes}
use Rattle.runs.proofs.Laws.{state, session_at-added, session_at-set, set-session_at}
use Rattle.runs.proofs.Bring.{row}
use Rattle.verdict.proofs.Decided.{opens-with, changes-to}
use Rattle.search.specs.Searched.{value_at, depth_at, Link, root, link, Good}
use Rattle.search.specs.Path.{way_at, Chain}
use Rattle.search.specs.Claims.{Change}
use Rattle.search.specs.declared.queue.Found.{Found}
use Rattle.search.proofs.Paths.{seen-place, chain}
use Rattle.session_rows.specs.Writing.{row_of}
use Rattle.session_rows.specs.Way.{way_rows}
use Rattle.leak.proofs.Rows.{Done, done_none, done-one, done-append, tab-last}

-- what holds only of numbers below n holds of at most n
pub count-within : (f : ℕ → Bool) (n top : ℕ) → ((v : ℕ) → v < top → f v ≡ true → v < n) → count_below f top ≤ n
unfolding count_below
count-within f n zero h = omega arith
count-within f n (suc top) h = go (f top) refl (count-within f n top (λ v l. h v (omega arith)))
  where
    go : (b : Bool) → f top ≡ b → count_below f top ≤ n → count_below f top + cond b 1 0 ≤ n
    go true e r = omega (arith, count-below-le f top, h top (omega arith) e)
    go false e r = omega arith

module _ (S : ℕ → ℕ → Type 0) (E : ℕ → ℕ → ℕ → Type 0) (q : Found) (G : Good S E q) where
  module _ (n : ℕ) (s : (via v : ℕ) → S via v → v < n) (e : (x via v : ℕ) → E x via v → v < n) where
    value-within : (i : ℕ) → i < q.len → value_at q i < n
    value-within i h = go (G.linked i h)
      where
        go : Link S E q i → value_at q i < n
        go (root a b z) = s _ _ z
        go (link j a b d z) = e _ _ _ z

    -- a search of values below n has at most n places
    pub search-within : q.len ≤ n
    search-within =
        rw G.placed.counted
        (count-within (lane_of q.seen) n 256 (λ v h t. let (a, b, c) = seen-place S E q G v h t in rw c at (value-within _ b)))

  -- with fewer links than places
  pub way-short : (pos : ℕ) → pos < q.len → depth_at q pos + 1 ≤ q.len
  way-short pos h = omega (arith, G.shallow pos h)

  -- values on the way are bytes
  pub way-byte : (pos : ℕ) → pos < q.len → (j : ℕ) → j ≤ depth_at q pos → value_at q (way_at q pos j) < 256
  way-byte pos h j l = G.placed.byte _ ((chain S E q G pos h).inside j l)

-- row j of a way
abbrev pub way_row : Found → ℕ → ℕ → ℕ → ℕ → ℕ
way_row q pos u n j = row_of (cond (eqb j 0) 1 3) u n (value_at q (way_at q pos j))

pub way-table : (q : Found) (pos first u n : ℕ) → way_rows q pos first u n ≡ tab (way_row q pos u n) first (depth_at q pos + 1 - first)
unfolding way_rows
way-table q pos first u n = refl

pub way-length : (q : Found) (pos first u n : ℕ) → length (way_rows q pos first u n) ≡ depth_at q pos + 1 - first
way-length q pos first u n = rw (way-table q pos first u n) (length-tab _ first _)

module _ (m : Model) (u : ℕ) (few : u < 1048576) where
  -- one row changes session n of user u from x to y
  change-row : (s : State) (n x y : ℕ) → n < 1048576 → y < 256 → session_at s n ≡ opened u x → Change m u x 0 y
      → Done m s (row_of 3 u n y ∷ []) (state (set s.sessions n (opened u y)) s.items)
  change-row s n x y l b e c =
      let d : Carried m s (row 3 u n y) (state (set s.sessions n (opened u y)) s.items)
      = changes record { kind = refl; held = x; owner = e; listed = ((changes-to m u x y).0 c).0; allowed = ((changes-to m u x y).0 c).1; state = refl }
      in
      done-one m s _ 3 u n y record { kind_fits = omega arith; actor-fits = few; target_fits = l; value-fits = omega arith } d

  -- the row of a link
  link_row : (q : Found) (pos n first j : ℕ) → 0 < first + j → way_row q pos u n (first + j) ≡ row_of 3 u n (value_at q (way_at q pos (first + j)))
  link_row q pos n first j h = rw (ne_eqb (first + j) 0 (λ e. omega arith)) refl

  module _ (q : Found) (G : Good (λ via v. opens_with m u v ≡ true) (Change m u) q) (pos : ℕ) (h : pos < q.len) (s : State) (l : length s.sessions < 1048576) where
    abbrev C : Chain (λ via v. opens_with m u v ≡ true) (Change m u) q pos
    C = chain _ _ q G pos h

    -- a session is opened, and has the value of place j of the way
    new-to : (j : ℕ) → j ≤ depth_at q pos
        → Done m s (tab (way_row q pos u (length s.sessions)) 0 (suc j)) (state (s.sessions ++ opened u (value_at q (way_at q pos j)) ∷ []) s.items)
    new-to zero i =
        let y : ℕ = value_at q (way_at q pos 0) in
        let o = (opens-with m u y).0 C.begins in
        let d : Carried m s (row 1 u (length s.sessions) y) (state (s.sessions ++ opened u y ∷ []) s.items)
        = opens record { kind = refl; user = o.0; next = refl; listed = o.1; allowed = o.2; state = refl }
        in
        let b : y < 256 = way-byte _ _ q G pos h 0 i in
        rw (tab-first (way_row q pos u (length s.sessions)) 0 0, tab-zero (way_row q pos u (length s.sessions)) 1)
        (done-one m s _ 1 u (length s.sessions) y record { kind_fits = omega arith; actor-fits = few; target_fits = l; value-fits = omega arith } d)
    new-to (suc j) i =
        let n : ℕ = length s.sessions in
        let x : ℕ = value_at q (way_at q pos j) in
        let y : ℕ = value_at q (way_at q pos (suc j)) in
        let t : State = state (s.sessions ++ opened u x ∷ []) s.items in
        let b : y < 256 = way-byte _ _ q G pos h (suc j) i in
        let c : Change m u x 0 y = rw add-one at (C.goes j i) in
        let d : Done m t (row_of 3 u n y ∷ []) (state (s.sessions ++ opened u y ∷ []) s.items)
        = rw set-append_seam at (change-row t n x y l b (session_at-added s u x) c)
        in
        let z : 0 + suc j ≡ suc j = omega arith in
        rw (tab-last (way_row q pos u n) 0 (suc j), link_row q pos n 0 (suc j) (omega arith), z) (done-append m (new-to j (omega arith)) d)

    -- the rows of a whole way open a session and bring it to the value of the place
    pub way-new : Done m s (way_rows q pos 0 u (length s.sessions)) (state (s.sessions ++ opened u (value_at q pos) ∷ []) s.items)
    way-new =
        let e : depth_at q pos + 1 - 0 ≡ suc (depth_at q pos) = omega arith in
        rw (way-table q pos 0 u (length s.sessions), e) (rw C.last at (new-to (depth_at q pos) (omega arith)))

  module _ (held : ℕ) (q : Found) (G : Good (λ via v. v ≡ held) (Change m u) q) (pos : ℕ) (h : pos < q.len) (s : State) (n : ℕ) (l : n < 1048576) (o : session_at s n ≡ opened u held) where
    abbrev D : Chain (λ via v. v ≡ held) (Change m u) q pos
    D = chain _ _ q G pos h

    -- session n has the value of place j of the way
    own-to : (j : ℕ) → j ≤ depth_at q pos
        → Done m s (tab (way_row q pos u n) 1 j) (state (set s.sessions n (opened u (value_at q (way_at q pos j)))) s.items)
    own-to zero i =
        let e : set s.sessions n (opened u held) ≡ s.sessions = set-session_at s n (opened u held) o in
        rw (tab-zero (way_row q pos u n) 1, D.begins, e) (done_none m s)
    own-to (suc j) i =
        let x : ℕ = value_at q (way_at q pos j) in
        let y : ℕ = value_at q (way_at q pos (suc j)) in
        let t : State = state (set s.sessions n (opened u x)) s.items in
        let b : y < 256 = way-byte _ _ q G pos h (suc j) i in
        let c : Change m u x 0 y = rw add-one at (D.goes j i) in
        let d : Done m t (row_of 3 u n y ∷ []) (state (set s.sessions n (opened u y)) s.items)
        = rw set-set at (change-row t n x y l b (session_at-set s n u held x o) c)
        in
        let z : 1 + j ≡ suc j = omega arith in
        rw (tab-last (way_row q pos u n) 1 j, link_row q pos n 1 j (omega arith), z) (done-append m (own-to j (omega arith)) d)

    -- the rows of a way from its first link on bring session n to the value of the place
    pub way-own : Done m s (way_rows q pos 1 u n) (state (set s.sessions n (opened u (value_at q pos))) s.items)
    way-own =
        let e : depth_at q pos + 1 - 1 ≡ depth_at q pos = omega arith in
        rw (way-table q pos 1 u n, e) (rw D.last at (own-to (depth_at q pos) (omega arith)))
