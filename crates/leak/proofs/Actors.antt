-- The session that acts. In order: what can be had is of a user and in the lists; one that acts, after rows; a starting session, changed along its
-- own way; one of a user, or of anyone, that stands open.
use mathlib.Core.Path.{◌≡◌, refl, ap, ◌∙◌}
use mathlib.Core.Bool.{true}
use mathlib.Core.List.{List, ◌++◌}
use Prim.Native.Nat.{ℕ, ◌+◌, ◌-◌, ◌≤◌, ◌<◌}
use native.Mathlib.Omega.{arith}
use lib.ListN.{length, get_or, set, length-append}
use Rattle.lanes.specs.Lanes.{lane_of}
use Rattle.runs.specs.Model.{Model}
use Rattle.runs.specs.State.{Session, opened, Item, State, session_at}
use Rattle.runs.specs.Grant.{Who, session, user, anyone, IsWho}
use Rattle.runs.specs.Reach.{base, more, Reach, Brought}
use Rattle.runs.proofs.Laws.{state, open-inside, session_at-kept, session_at-set}
use Rattle.verdict.proofs.Decided.{changes-to}
use Rattle.search.specs.Sessions.{own_found}
use Rattle.search.specs.Searched.{place_at, Good}
use Rattle.search.specs.Claims.{Change}
use Rattle.search.specs.declared.queue.Found.{Found}
use Rattle.search.proofs.Paths.{seen-place}
use Rattle.search.proofs.Theorems.{own-is-searched}
use Rattle.session_rows.specs.Writing.{Writing, wrote}
use Rattle.session_rows.specs.Way.{way_rows, helped, helped_by}
use Rattle.leak.specs.Leak.{actor_ready, actor_of, ready_by, number_by}
use Rattle.leak.specs.Standing.{WhoAimed}
use Rattle.leak.specs.declared.Aim.{Aim}
use Rattle.leak.specs.declared.Actor.{Actor}
use Rattle.leak.specs.declared.Actor.TheVariants.{Session as ActingSession, User, Anyone}
use Rattle.leak.proofs.Rows.{Done, done-append}
use Rattle.leak.proofs.Ways.{search-within, way-short, way-length, way-own}
use Rattle.leak.proofs.Helpers.{longer, wrote-fits, Sofar, stands-done, Able, Helps, HelpsBy, helps-open, helps-small, helped-helps, helped_by-helps}

-- what a user's sessions can have is in the lists, and the user is one
reach-known : (m : Model) (u : ℕ) {v : ℕ} → Reach m u v → (u < m.users) × (m.session_value v ≡ true)
reach-known m u (base h) = (h.0, h.1)
reach-known m u (more r e) = ((reach-known m u r).0, e.0)

-- after the rows, at most c, session a is one that is asked about and has the value; the items are these
pub record Acting (m : Model) (start : State) (c : ℕ) (who : Who) (a value : ℕ) (items : List Item) (rows : List ℕ) : Type 0 where
  pub sessions : List Session
  pub done : Done m start rows (state sessions items)
  pub short : length rows ≤ c
  pub owner : ℕ
  pub acts : session_at (state sessions items) a ≡ opened owner value
  pub asked : IsWho who (state sessions items) a
  pub small : a < 1048576

-- a starting session is changed along its own way
module _ (m : Model) (start : State) (n room : ℕ) (users : List Found) (by : List ℕ) (A : Able m start n users by) (b : Brought m start)
    (c : ℕ) (items : List Item) (w : Writing) (S : Sofar m start c items w) (r : c + n ≤ room) (f : c + n ≤ 66049)
    (j u held value : ℕ) (e : session_at start j ≡ opened u held) (h : held < 256) (v : value < 256) (t : lane_of (own_found m u held).seen value ≡ true) where
  abbrev q : Found
  q = own_found m u held

  G : Good (λ via v. v ≡ held) (Change m u) q
  G = (own-is-searched m u held h).good

  abbrev l : List ℕ
  l = way_rows q (place_at q value - 1) 1 u j

  session-small : j < 1048576
  session-small = omega (arith, open-inside start j u held e, A.few-sessions)

  rows_short : length l ≤ n
  rows_short =
      let known = (reach-known m u (b j u held e)).1 in
      let k : q.len ≤ n = search-within _ _ q G n (λ via x z. rw z (A.listed held known)) (λ x via y z. A.listed y ((changes-to m u x y).0 z).0) in
      omega (arith, way-length q (place_at q value - 1) 1 u j, way-short _ _ q G (place_at q value - 1) (seen-place _ _ q G value v t).1)

  now : session_at (state (start.sessions ++ S.added) items) j ≡ opened u held
  now = session_at-kept start S.added items j u held e

  rows-done : Done m (state (start.sessions ++ S.added) items) l (state (set (start.sessions ++ S.added) j (opened u value)) items)
  rows-done =
      let (a, k, z) = seen-place _ _ q G value v t in
      let small : u < 1048576 = omega (arith, (reach-known m u (b j u held e)).0, A.few-users) in
      rw z at (way-own m u small held q G (place_at q value - 1) k (state (start.sessions ++ S.added) items) j session-small now)

  session-acts : Acting m start (c + n) (session j) j value items (wrote room l w).rows
  session-acts =
      let z : wrote room l w ≡ longer l w = wrote-fits room l w (omega (arith, S.short, rows_short)) in
      rw z
      record {
        sessions = set (start.sessions ++ S.added) j (opened u value);
        done = done-append m (stands-done m start S.stands) rows-done;
        short = omega (arith, length-append w.rows l, S.short, rows_short);
        owner = u;
        acts = session_at-set (state (start.sessions ++ S.added) items) j u held value now;
        asked = refl;
        small = session-small;
      }

module _ (room : ℕ) (users : List Found) (by : List ℕ) (own : Found) (a : Aim) (w : Writing) where
  -- by who is asked about
  ready-is : (who : Actor) → a.actor ≡ who → actor_ready room users by own a w ≡ ready_by room users by own a.value who w
  unfolding actor_ready
  ready-is who e = rw e refl

  actor-is : (who : Actor) → a.actor ≡ who → actor_of room users by a w ≡ number_by room users by a.value who w
  unfolding actor_of
  actor-is who e = rw e refl

module _ (m : Model) (start : State) (n room : ℕ) (users : List Found) (by : List ℕ) (A : Able m start n users by) (b : Brought m start)
    (c : ℕ) (items : List Item) (w : Writing) (S : Sofar m start c items w) (r : c + n ≤ room) (f : c + n ≤ 66049) (own : Found) (a : Aim) (v : a.value < 256) where
  -- one that stands open
  helper-acts : (who : Who) (x : Writing) (p : Helps m start n room users by A (c + n) items a.value x)
      → IsWho who (state (start.sessions ++ p.sofar.added) items) (get_or x.number a.value 0 - 1)
      → Acting m start (c + n) who (get_or x.number a.value 0 - 1) a.value items x.rows
  helper-acts who x p i =
      record {
        sessions = start.sessions ++ p.sofar.added;
        done = stands-done m start p.sofar.stands;
        short = p.sofar.short;
        owner = get_or x.owner a.value 0;
        acts = helps-open m start n room users by A (c + n) items a.value x v p;
        asked = i;
        small = helps-small m start n room users by A (c + n) items a.value x v p f;
      }

  pub actor-acts : (who : Who) → WhoAimed m start by own a who
      → Acting m start (c + n) who (actor_of room users by a (actor_ready room users by own a w)) a.value items (actor_ready room users by own a w).rows
  unfolding ready_by number_by
  actor-acts (session j) ((owner, k, (held, e, h, o)), t) =
      let t' : lane_of (own_found m owner held).seen a.value ≡ true = rw o at t in
      rw (actor-is room users by own a (actor_ready room users by own a w) (ActingSession j owner) k, ready-is room users by own a w (ActingSession j owner) k, o)
      (session-acts m start n room users by A b c items w S r f j owner held a.value e h v t')
  actor-acts (user u) (k, h, t) =
      let x : Writing = helped_by room users by u a.value w in
      let p : HelpsBy m start n room users by A (c + n) items u a.value x = helped_by-helps m start n room users by A c items w S r f u a.value h v t in
      rw (actor-is room users by own a (actor_ready room users by own a w) (User u) k, ready-is room users by own a w (User u) k)
      (helper-acts (user u) x p.helps
      (a.value, helps-open m start n room users by A (c + n) items a.value x v p.helps ∙ ap (λ (z : ℕ). opened z a.value) p.owned))
  actor-acts anyone (k, t) =
      let x : Writing = helped room users by a.value w in
      let p : Helps m start n room users by A (c + n) items a.value x = helped-helps m start n room users by A c items w S r f a.value v t in
      rw (actor-is room users by own a (actor_ready room users by own a w) Anyone k, ready-is room users by own a w Anyone k)
      (helper-acts anyone x p tt)
