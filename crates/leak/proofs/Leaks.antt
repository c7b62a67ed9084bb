-- The rows of a leak. In order: a search of one item is one of items; the last row fits; the item, the session and the access together, in few rows.
use mathlib.Core.Path.{◌≡◌, refl, ap}
use mathlib.Core.Bool.{Bool, true}
use mathlib.Core.Logic.{inl}
use mathlib.Core.List.{List, [], ◌∷◌, ◌++◌}
use Prim.Native.Nat.{ℕ, ◌+◌, ◌*◌, ◌≤◌, ◌<◌}
use native.Mathlib.Nat.{mul-le-mul_right}
use native.Mathlib.Omega.{arith}
use lib.ListN.{length, get_or, length-append}
use Rattle.runs.specs.Model.{Model}
use Rattle.runs.specs.State.{State}
use Rattle.runs.specs.Edge.{accesses}
use Rattle.runs.specs.Step.{Grants, Carried, grants}
use Rattle.runs.specs.Grant.{Who, Which, item, anything, IsWhich, Fits}
use Rattle.runs.specs.Outcome.{Below}
use Rattle.runs.proofs.Laws.{state, item_at-is}
use Rattle.runs.proofs.Bring.{row}
use Rattle.verdict.proofs.Decided.{accesses-is}
use Rattle.cells.specs.Leak.{IsLeak}
use Rattle.search.specs.Searched.{value_at, depth_at, Link, root, link, Good}
use Rattle.search.specs.Claims.{Begun, Modify}
use Rattle.search.specs.declared.queue.Found.{Found}
use Rattle.session_rows.specs.Writing.{Writing, row_of, wrote}
use Rattle.leak.specs.Leak.{item_to, item_of, actor_ready, actor_of, leak_written}
use Rattle.leak.specs.Standing.{Stands, WhichAimed, Aimed}
use Rattle.leak.specs.declared.Aim.{Aim}
use Rattle.leak.proofs.Rows.{Fit, row_step_lem, Done, done-one, done-append}
use Rattle.leak.proofs.Helpers.{longer, wrote-fits, sofar-start, Able}
use Rattle.leak.proofs.ItemWays.{item_of-stands, ItemReady, aim-small, item-ready}
use Rattle.leak.proofs.Actors.{Acting, actor-acts}

-- a search of one starting item is good as a search of items
module _ (m : Model) (helper : ℕ → Bool) (values : List ℕ) (j : ℕ) (h : j < length values) (q : Found) where
  pub one-good : Good (λ via o. (via ≡ 256 + j) × (o ≡ get_or values j 0)) (Modify m helper) q → Good (Begun m helper values) (Modify m helper) q
  one-good G = record { sized = G.sized; placed = G.placed; linked = λ i l. go i (G.linked i l); shallow = G.shallow }
    where
      go : (i : ℕ) → Link (λ via o. (via ≡ 256 + j) × (o ≡ get_or values j 0)) (Modify m helper) q i → Link (Begun m helper values) (Modify m helper) q i
      go i (root a b (e, z)) = root a b (inl (j, h, e, z))
      go i (link p a b c e) = link p a b c e

-- the item is one that is asked about
asked-which : (room : ℕ) (users : List Found) (by : List ℕ) (q : Found) (pos items : ℕ) (which : Which) → WhichAimed q pos which → IsWhich which (item_of room users by q pos items)
asked-which room users by q pos items (item j) e = item_of-stands room users by q pos j items e
asked-which room users by q pos items anything e = tt

module _ (m : Model) (start : State) (room : ℕ) (who : Who) (which : Which) (c a t value permission : ℕ) (items : List ℕ) (w : Writing)
    (A : Acting m start c who a value items w.rows) (r : c + 1 ≤ room) (h : t < length items) (small : t < 1048576) (p : permission < 256)
    (i : IsWhich which t) (g : accesses m permission value (get_or items t 0) ≡ true) where
  granted : Grants m (state A.sessions items) (row 6 a t permission) (state A.sessions items)
  granted =
      let (k, l) = (accesses-is m permission value (get_or items t 0)).0 g in
      record { kind = refl; user = A.owner; held = value; actor = A.acts; there = h; permission = k; allowed = rw (item_at-is (state A.sessions items) t) l; state = refl }

  fit : Fit 6 a t permission
  fit = record { kind_fits = omega arith; actor-fits = A.small; target_fits = small; value-fits = omega arith }

  abbrev last : ℕ
  last = row_of 6 a t permission

  all_done : Done m start (w.rows ++ last ∷ []) (state A.sessions items)
  all_done =
      let d : Carried m (state A.sessions items) (row 6 a t permission) (state A.sessions items) = grants granted in
      done-append m A.done (done-one m _ _ 6 a t permission fit d)

  pub last-leaks : IsLeak m start who which permission (wrote room (last ∷ []) w).rows × (length (wrote room (last ∷ []) w).rows ≤ c + 1)
  last-leaks =
      let e : wrote room (last ∷ []) w ≡ longer (last ∷ []) w = wrote-fits room (last ∷ []) w (omega (arith, A.short)) in
      let f : Fits m (state A.sessions items) who which permission (row 6 a t permission) = record { granted = granted; asked = refl; actor = A.asked; target = i } in
      rw e (
        record {
          before = w.rows;
          last = last;
          rows_are = refl;
          state = state A.sessions items;
          carried = A.done.carried;
          fits = rw (row_step_lem 6 a t permission fit) f;
          plain = all_done.plain;
        },
        omega (arith, length-append w.rows (last ∷ []), A.short),
      )

-- what is written: the access, by the session, of item t
module _ (room : ℕ) (users : List Found) (by : List ℕ) (q : Found) (pos : ℕ) (own : Found) (a : Aim) (w : Writing) where
  abbrev grant_of : ℕ → Writing
  grant_of t =
      let s = actor_ready room users by own a (item_to room users by q pos t (depth_at q pos + 1) w) in
      wrote room (row_of 6 (actor_of room users by a s) t a.permission ∷ []) s

  written_is : (items : ℕ) → a.items ≡ items → leak_written room users by q pos own a w ≡ grant_of (item_of room users by q pos items)
  unfolding leak_written
  written_is items e = ap (λ (x : ℕ). grant_of (item_of room users by q pos x)) e

module _ (m : Model) (start : State) (n k room : ℕ) (B : Below m start n k) (hn : n ≤ 256) (hk : k ≤ 256) (r : n + k * (n + 1) + 1 ≤ room)
    (users : List Found) (by : List ℕ) (q : Found) (pos : ℕ) (own : Found) (a : Aim) (who : Who) (which : Which)
    (A : Aimed m start users by q pos own a who which) (w : Writing) (e : w.rows ≡ []) (S : Stands m start w start) where
  able : Able m start n users by
  able = record { ready = A.ready; listed = B.sessions; few-users = A.few-users; few-sessions = A.few-sessions }

  few : n + k * (n + 1) + 1 ≤ 66049
  few = omega (arith, mul-le-mul_right (n + 1) hk)

  -- the item, and the rows that bring it to its value
  abbrev t : ℕ
  t = item_of room users by q pos (length start.items)

  abbrev brought : Writing
  brought = item_to room users by q pos t (depth_at q pos + 1) w

  ready : ItemReady m start (k * (n + 1)) t (value_at q pos) brought
  ready = item-ready m start n k room users by able B A.few-items (omega arith) (omega (arith, few)) q A.searched pos A.place w (sofar-start m start w e S)

  acts : Acting m start (k * (n + 1) + n) who (actor_of room users by a (actor_ready room users by own a brought)) a.value ready.items (actor_ready room users by own a brought).rows
  acts = actor-acts m start n room users by able A.brought (k * (n + 1)) ready.items brought ready.sofar (omega arith) (omega (arith, few)) own a A.value who A.who-aimed

  pub written-leaks : IsLeak m start who which a.permission (leak_written room users by q pos own a w).rows
      × (length (leak_written room users by q pos own a w).rows ≤ n + k * (n + 1) + 1)
  written-leaks =
      let g : accesses m a.permission a.value (get_or ready.items t 0) ≡ true = rw ready.content A.granted in
      let (x, y) = last-leaks m start room who which (k * (n + 1) + n) _ t a.value a.permission ready.items (actor_ready room users by own a brought) acts
      (omega arith) ready.there (aim-small m start n k room users by able B A.few-items (omega arith) (omega (arith, few)) q A.searched pos A.place)
      A.permission (asked-which room users by q pos (length start.items) which A.which-aimed) g
      in
      rw (written_is room users by q pos own a w (length start.items) A.items) (x, omega arith)
