-- Sessions that stand open. In order: rows with and without room; what has been written so far, in a run that has only added sessions; a new session
-- stands open; one with a value, by whomever, or by a user.
use mathlib.Core.Path.{◌≡◌, refl, sym, ◌∙◌}
use mathlib.Core.Bool.{true}
use mathlib.Core.List.{List, [], ◌∷◌, ◌++◌, append_assoc, append-nil}
use Prim.Native.Nat.{ℕ, ◌+◌, ◌-◌, ◌≤◌, ◌<◌}
use native.Mathlib.Decide.{ℕ_discrete}
use native.Mathlib.Omega.{arith}
use borrow.Author.Tests.{le-leb, eqb-true, eqb-false}
use lib.Dec.{eqb}
use lib.ListN.{length, get_or, set, length-append, length-set}
use lib.Seq.{get_or-set_same, get_or-set_other}
use Rattle.lanes.specs.Lanes.{lane_of}
use Rattle.runs.specs.Model.{Model}
use Rattle.runs.specs.State.{Session, opened, Item, State, session_at}
use Rattle.runs.specs.Edge.{opens_with}
use Rattle.runs.proofs.Laws.{state, session_at-is, open-inside, session_at-added, session_at-kept}
use Rattle.verdict.proofs.Decided.{opens-with, changes-to}
use Rattle.search.specs.Sessions.{sessions_found}
use Rattle.search.specs.Searched.{place_at, depth_at, Good}
use Rattle.search.specs.Claims.{Change}
use Rattle.search.specs.declared.queue.Found.{Found}
use Rattle.search.proofs.Turns.{chosen}
use Rattle.search.proofs.Paths.{seen-place}
use Rattle.search.proofs.Theorems.{sessions-are-searched}
use Rattle.session_rows.specs.Writing.{Writing, wrote, stood}
use Rattle.session_rows.specs.Way.{way_rows, brought, helped, helped_by}
use Rattle.leak.specs.Standing.{Stands, Ready}
use Rattle.user_results.specs.Found.{named}
use Rattle.leak.proofs.Rows.{Done, done-append}
use Rattle.leak.proofs.Ways.{search-within, way-short, way-length, way-new}

-- more rows
abbrev pub longer : List ℕ → Writing → Writing
longer l w = record { rows = w.rows ++ l; next = w.next; number = w.number; owner = w.owner }

-- more rows, and a session that they leave open
abbrev pub with_new : List ℕ → ℕ → ℕ → Writing → Writing
with_new l u v w = record { rows = w.rows ++ l; next = w.next + 1; number = set w.number v (w.next + 1); owner = set w.owner v u }

pub wrote-fits : (room : ℕ) (l : List ℕ) (w : Writing) → length w.rows + length l ≤ room → wrote room l w ≡ longer l w
unfolding wrote
wrote-fits room l w h = rw (le-leb _ _ h) refl

brought-fits : (room : ℕ) (q : Found) (u v : ℕ) (w : Writing) → length w.rows + length (way_rows q (place_at q v - 1) 0 u w.next) ≤ room
    → brought room q u v w ≡ with_new (way_rows q (place_at q v - 1) 0 u w.next) u v w
unfolding brought stood
brought-fits room q u v w h = rw (wrote-fits room (way_rows q (place_at q v - 1) 0 u w.next) w h) refl

module _ (m : Model) (start : State) where
  -- at most c rows have been written; they have added sessions to those at the start, and left these items
  pub record Sofar (c : ℕ) (items : List Item) (w : Writing) : Type 0 where
    pub added : List Session
    pub stands : Stands m start w (state (start.sessions ++ added) items)
    pub short : length w.rows ≤ c

  pub sofar-start : (w : Writing) → w.rows ≡ [] → Stands m start w start → Sofar 0 start.items w
  sofar-start w e s = record { added = []; stands = rw append-nil s; short = rw e (omega arith) }

  pub sofar-less : {c d : ℕ} {items : List Item} {w : Writing} → c ≤ d → Sofar c items w → Sofar d items w
  sofar-less h s = record { added = s.added; stands = s.stands; short = omega (arith, s.short) }

  pub stands-done : {w : Writing} {s : State} → Stands m start w s → Done m start w.rows s
  stands-done s = record { carried = s.carried; plain = s.plain }

  -- rows that leave the sessions as they are
  pub stands-longer : (w : Writing) (s : State) (items : List Item) (l : List ℕ) → Stands m start w s → Done m s l (state s.sessions items)
      → Stands m start (longer l w) (state s.sessions items)
  stands-longer w s items l t d =
      let r : Done m start (w.rows ++ l) (state s.sessions items) = done-append m (stands-done t) d in
      record {
        carried = r.carried;
        plain = r.plain;
        next = t.next;
        few = omega (arith, t.few, length-append w.rows l);
        sized = t.sized;
        standing = λ v j h z. session_at-is (state s.sessions items) j ∙ sym (session_at-is s j) ∙ t.standing v j h z;
      }

  -- a new session stands open
  pub stands-new : (w : Writing) (s : State) (l : List ℕ) (u v : ℕ) → v < 256 → 0 < length l → Stands m start w s
      → Done m s l (state (s.sessions ++ opened u v ∷ []) s.items) → Stands m start (with_new l u v w) (state (s.sessions ++ opened u v ∷ []) s.items)
  stands-new w s l u v b h t d =
      let r : Done m start (w.rows ++ l) (state (s.sessions ++ opened u v ∷ []) s.items) = done-append m (stands-done t) d in
      record {
        carried = r.carried;
        plain = r.plain;
        next = omega (arith, t.next, length-append s.sessions (opened u v ∷ []));
        few = omega (arith, t.few, length-append w.rows l);
        sized = (length-set w.number v (w.next + 1) ∙ t.sized.0, length-set w.owner v u ∙ t.sized.1);
        standing = λ x j k z. at x j k z (ℕ_discrete x v);
      }
    where
      at : (x j : ℕ) → x < 256 → get_or (set w.number v (w.next + 1)) x 0 ≡ j + 1 → Dec (x ≡ v)
          → session_at (state (s.sessions ++ opened u v ∷ []) s.items) j ≡ opened (get_or (set w.owner v u) x 0) x
      at x j k z (yes e) =
          let a : get_or (set w.number v (w.next + 1)) v 0 ≡ w.next + 1 = get_or-set_same w.number v (w.next + 1) 0 (omega (arith, t.sized.0)) in
          let c : get_or (set w.owner v u) v 0 ≡ u = get_or-set_same w.owner v u 0 (omega (arith, t.sized.1)) in
          let y : get_or (set w.number v (w.next + 1)) v 0 ≡ j + 1 = rw e at z in
          let i : j ≡ length s.sessions = omega (arith, t.next) in
          rw (e, c, i) (session_at-added s u v)
      at x j k z (no e) =
          let y : get_or w.number x 0 ≡ j + 1 = rw get_or-set_other at z in
          rw get_or-set_other (session_at-kept s (opened u v ∷ []) s.items j (get_or w.owner x 0) x (t.standing x j k y))

-- what helpers are brought about with: few users and sessions, values below n, and a search for each user
pub record Able (m : Model) (start : State) (n : ℕ) (users : List Found) (by : List ℕ) : Type 0 where
  pub ready : Ready m users by
  pub listed : (v : ℕ) → m.session_value v ≡ true → v < n
  pub few-users : m.users ≤ 16
  pub few-sessions : length start.sessions ≤ 32

module _ (m : Model) (start : State) (n room : ℕ) (users : List Found) (by : List ℕ) (A : Able m start n users by) where
  -- a session stands open with value v, after at most c rows
  pub record Helps (c : ℕ) (items : List Item) (v : ℕ) (w : Writing) : Type 0 where
    pub sofar : Sofar m start c items w
    pub there : 0 < get_or w.number v 0

  -- it is one of user u
  pub record HelpsBy (c : ℕ) (items : List Item) (u v : ℕ) (w : Writing) : Type 0 where
    pub helps : Helps c items v w
    pub owned : get_or w.owner v 0 ≡ u

  helps-less : {c d : ℕ} {items : List Item} {v : ℕ} {w : Writing} → c ≤ d → Helps c items v w → Helps d items v w
  helps-less h p = record { sofar = sofar-less m start h p.sofar; there = p.there }

  module _ (c : ℕ) (items : List Item) (v : ℕ) (w : Writing) (b : v < 256) (p : Helps c items v w) where
    -- it does
    pub helps-open : session_at (state (start.sessions ++ p.sofar.added) items) (get_or w.number v 0 - 1) ≡ opened (get_or w.owner v 0) v
    helps-open = p.sofar.stands.standing v (get_or w.number v 0 - 1) b (omega (arith, p.there))

    -- its number is small
    pub helps-small : c ≤ 66049 → get_or w.number v 0 - 1 < 1048576
    helps-small h =
        omega (arith, open-inside _ _ _ _ helps-open, p.sofar.stands.next, p.sofar.stands.few, p.sofar.short, A.few-sessions)

  module _ (c : ℕ) (items : List Item) (w : Writing) (S : Sofar m start c items w) (r : c + n ≤ room) (f : c + n ≤ 66049) where
    -- one stands open
    stays : (v : ℕ) → (get_or w.number v 0 ≡ 0 → ⊥) → Helps (c + n) items v w
    stays v e = record { sofar = sofar-less m start (omega arith) S; there = go (ℕ_discrete (get_or w.number v 0) 0) }
      where
        go : Dec (get_or w.number v 0 ≡ 0) → 0 < get_or w.number v 0
        go (yes z) = absurd (e z)
        go (no z) = omega arith

    -- a new session of user u is brought to value v
    module _ (u v : ℕ) (h : u < m.users) (b : v < 256) (t : lane_of (sessions_found m u).seen v ≡ true) where
      abbrev q : Found
      q = sessions_found m u

      G : Good (λ via v. opens_with m u v ≡ true) (Change m u) q
      G = (sessions-are-searched m u).good

      rows_short : depth_at q (place_at q v - 1) + 1 ≤ n
      rows_short =
          let k : q.len ≤ n = search-within _ _ q G n (λ via x e. A.listed x ((opens-with m u x).0 e).1) (λ x via y e. A.listed y ((changes-to m u x y).0 e).0) in
          omega (arith, way-short _ _ q G (place_at q v - 1) (seen-place _ _ q G v b t).1)

      -- the rows that bring it there
      abbrev l : List ℕ
      l = way_rows q (place_at q v - 1) 0 u w.next

      rows-length : (0 < length l) × (length l ≤ n)
      rows-length = let k = way-length q (place_at q v - 1) 0 u w.next in (omega arith, omega (arith, rows_short))

      rows-done : Done m (state (start.sessions ++ S.added) items) l (state ((start.sessions ++ S.added) ++ opened u v ∷ []) items)
      rows-done =
          let e : w.next ≡ length (start.sessions ++ S.added) = S.stands.next in
          let (a, k, z) = seen-place _ _ q G v b t in
          let i : length (start.sessions ++ S.added) < 1048576 = omega (arith, S.stands.few, S.short, A.few-sessions) in
          rw e (rw z at (way-new m u (omega (arith, A.few-users)) q G (place_at q v - 1) k (state (start.sessions ++ S.added) items) i))

      pub brought-helps : HelpsBy (c + n) items u v (brought room q u v w)
      brought-helps =
          let e : brought room q u v w ≡ with_new l u v w = brought-fits room q u v w (omega (arith, S.short, rows-length.1)) in
          let a : get_or (set w.number v (w.next + 1)) v 0 ≡ w.next + 1 = get_or-set_same w.number v (w.next + 1) 0 (omega (arith, S.stands.sized.0)) in
          rw e
          record {
            helps = record {
              sofar = record {
                added = S.added ++ opened u v ∷ [];
                stands = rw append_assoc at (stands-new m start w _ l u v b rows-length.0 S.stands rows-done);
                short = omega (arith, length-append w.rows l, S.short, rows-length.1);
              };
              there = omega arith;
            };
            owned = get_or-set_same w.owner v u 0 (omega (arith, S.stands.sized.1));
          }

      -- one of user u
      pub helped_by-helps : HelpsBy (c + n) items u v (helped_by room users by u v w)
      unfolding helped_by
      helped_by-helps =
          rw (A.ready.users-searched u h)
          (chosen (HelpsBy (c + n) items u v) (eqb (get_or w.number v 0) 0) _ _ (λ e. brought-helps)
          (λ e. chosen (HelpsBy (c + n) items u v) (eqb (get_or w.owner v 0) u) _ _
          (λ d. let z = eqb-false (get_or w.number v 0) 0 e in record { helps = stays v z; owned = eqb-true (get_or w.owner v 0) u d }) (λ d. brought-helps)))

    -- by whomever
    pub helped-helps : (v : ℕ) → v < 256 → named by v ≡ true → Helps (c + n) items v (helped room users by v w)
    unfolding helped
    helped-helps v b e =
        let u : ℕ = get_or by v 0 - 1 in
        let h : u < m.users = A.ready.named-user v b e in
        rw (A.ready.users-searched u h)
        (chosen (Helps (c + n) items v) (eqb (get_or w.number v 0) 0) _ _ (λ d. (brought-helps u v h b (A.ready.named-reaches v b e)).helps) (λ d. stays v (eqb-false (get_or w.number v 0) 0 d)))
