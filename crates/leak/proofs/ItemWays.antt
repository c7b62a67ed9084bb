-- An item is brought to its value. In order: a session that stands open does one step on an item; the item that a way is of; the way of an item,
-- from a start that stands or is made, link by link; its rows are few.
use mathlib.Core.Path.{◌≡◌, refl, sym}
use mathlib.Core.Bool.{true}
use mathlib.Core.Logic.{inl, inr}
use mathlib.Core.List.{List, [], ◌∷◌, ◌++◌}
use Prim.Native.Nat.{ℕ, zero, suc, ◌+◌, ◌-◌, ◌*◌, ◌≤◌, ◌<◌}
use native.Mathlib.Nat.{suc-mul, mul-le-mul_right}
use native.Mathlib.Numerals.{add-one}
use native.Mathlib.Omega.{arith}
use borrow.Author.Tests.{le-leb, lt-leb, ne_eqb}
use lib.ListN.{length, get_or, set, length-append, length-set}
use lib.Seq.{get_or-set_same, get_or-append_seam}
use Rattle.runs.specs.Model.{Model}
use Rattle.runs.specs.State.{Session, opened, Item, State, session_at}
use Rattle.runs.specs.Edge.{makes_with, modifies_to}
use Rattle.runs.specs.Step.{Carried, makes, modifies}
use Rattle.runs.specs.Outcome.{Below}
use Rattle.runs.proofs.Laws.{state, item_at-is}
use Rattle.runs.proofs.Bring.{row}
use Rattle.verdict.proofs.Decided.{makes-with, modifies-to}
use Rattle.search.specs.Searched.{value_at, via_at, depth_at, Good}
use Rattle.search.specs.Path.{way_at, Chain}
use Rattle.search.specs.Claims.{Begun, Modify}
use Rattle.search.specs.declared.queue.Found.{Found}
use Rattle.search.proofs.Paths.{chain}
use Rattle.session_rows.specs.Writing.{Writing, row_of, wrote}
use Rattle.leak.specs.Leak.{linked, item_to, item_of}
use Rattle.user_results.specs.Found.{named}
use Rattle.leak.proofs.Rows.{Done, done-one}
use Rattle.leak.proofs.Ways.{search-within, way-short, way-byte}
use Rattle.leak.proofs.Helpers.{wrote-fits, longer, Sofar, sofar-less, stands-longer, Able, Helps, helps-open, helps-small, helped-helps}

module _ (m : Model) (start : State) (n room : ℕ) (users : List Found) (by : List ℕ) (A : Able m start n users by) where
  -- whatever session with value v does the step, the items are these after it
  abbrev Does : ℕ → ℕ → ℕ → ℕ → List Item → List Item → Type 0
  Does kind v t o items after =
      (sessions : List Session) (a u : ℕ) → session_at (state sessions items) a ≡ opened u v → Carried m (state sessions items) (row kind a t o) (state sessions after)

  module _ (kind v t o : ℕ) (kf : kind < 16) (b : v < 256) (tf : t < 1048576) (of : o < 256) (items after : List Item) (d : Does kind v t o items after) where
    -- by a session that stands open
    step-sofar : (c : ℕ) (w : Writing) → c + 1 ≤ room → c ≤ 66049 → Helps m start n room users by A c items v w
        → Sofar m start (c + 1) after (wrote room (row_of kind (get_or w.number v 0 - 1) t o ∷ []) w)
    step-sofar c w r f p =
        let l : List ℕ = row_of kind (get_or w.number v 0 - 1) t o ∷ [] in
        let s : State = state (start.sessions ++ p.sofar.added) items in
        let e : wrote room l w ≡ longer l w = wrote-fits room l w (omega (arith, p.sofar.short)) in
        let fit = helps-small m start n room users by A c items v w b p f in
        let step : Done m s l (state s.sessions after)
        = done-one m s _ kind _ t o record { kind_fits = kf; actor-fits = fit; target_fits = tf; value-fits = omega arith }
        (d s.sessions _ _ (helps-open m start n room users by A c items v w b p))
        in
        rw e
        record {
          added = p.sofar.added;
          stands = stands-longer m start w s after l p.sofar.stands step;
          short = omega (arith, length-append w.rows l, p.sofar.short);
        }

    -- by one that is brought about for it
    linked-sofar : (c : ℕ) (w : Writing) → c + (n + 1) ≤ room → c + (n + 1) ≤ 66049 → named by v ≡ true → Sofar m start c items w
        → Sofar m start (c + (n + 1)) after (linked room users by kind v t o w)
    unfolding linked
    linked-sofar c w r f e S =
        sofar-less m start (omega arith)
        (step-sofar (c + n) _ (omega arith) (omega arith) (helped-helps m start n room users by A c items w S (omega arith) (omega arith) v b e))

  made : (v o : ℕ) (items : List Item) → makes_with m v o ≡ true → Does 4 v (length items) o items (items ++ o ∷ [])
  made v o items e sessions a u z =
      let (l, k) = (makes-with m v o).0 e in
      makes record { kind = refl; user = u; held = v; actor = z; next = refl; listed = l; allowed = k; state = refl }

  modified : (v t o : ℕ) (items : List Item) → t < length items → modifies_to m v (get_or items t 0) o ≡ true → Does 5 v t o items (set items t o)
  modified v t o items h e sessions a u z =
      let (l, k) = (modifies-to m v (get_or items t 0) o).0 e in
      modifies record { kind = refl; user = u; held = v; actor = z; there = h; listed = l; allowed = rw (item_at-is (state sessions items) t) k; state = refl }

module _ (room : ℕ) (users : List Found) (by : List ℕ) (q : Found) (pos : ℕ) where
  -- no step yet
  item-none : (t : ℕ) (w : Writing) → item_to room users by q pos t 0 w ≡ w
  unfolding item_to
  item-none t w = refl

  -- a start that stands
  item-stands : (t : ℕ) (w : Writing) → 256 ≤ via_at q (way_at q pos 0) → item_to room users by q pos t 1 w ≡ w
  unfolding item_to
  item-stands t w h = rw (le-leb _ _ h) refl

  -- a start that is made
  item-made : (t : ℕ) (w : Writing) → via_at q (way_at q pos 0) < 256
      → item_to room users by q pos t 1 w ≡ linked room users by 4 (via_at q (way_at q pos 0)) t (value_at q (way_at q pos 0)) w
  unfolding item_to
  item-made t w h = rw (lt-leb _ _ h) refl

  -- a link
  item-link : (t j : ℕ) (w : Writing)
      → item_to room users by q pos t (suc (suc j)) w
      ≡ linked room users by 5 (via_at q (way_at q pos (suc j))) t (value_at q (way_at q pos (suc j))) (item_to room users by q pos t (suc j) w)
  unfolding item_to
  item-link t j w = rw (ne_eqb (suc j) 0 (λ e. omega arith)) refl

  -- the item of a start that stands, and of one that is made
  pub item_of-stands : (j items : ℕ) → via_at q (way_at q pos 0) ≡ 256 + j → item_of room users by q pos items ≡ j
  unfolding item_of
  item_of-stands j items e = rw (e, le-leb 256 (256 + j) (omega arith)) (omega arith)

  item_of-made : (items : ℕ) → via_at q (way_at q pos 0) < 256 → item_of room users by q pos items ≡ items
  unfolding item_of
  item_of-made items h = rw (lt-leb _ _ h) refl

-- item t has value o after at most c rows
pub record ItemReady (m : Model) (start : State) (c t o : ℕ) (w : Writing) : Type 0 where
  pub items : List Item
  pub sofar : Sofar m start c items w
  pub there : t < length items
  pub content : get_or items t 0 ≡ o

module _ (m : Model) (start : State) (n k room : ℕ) (users : List Found) (by : List ℕ) (A : Able m start n users by) (B : Below m start n k)
    (few : length start.items ≤ 32) (r : k * (n + 1) ≤ room) (f : k * (n + 1) ≤ 66049)
    (q : Found) (G : Good (Begun m (named by) start.items) (Modify m (named by)) q) (pos : ℕ) (h : pos < q.len) where
  abbrev C : Chain (Begun m (named by) start.items) (Modify m (named by)) q pos
  C = chain _ _ q G pos h

  -- the item
  abbrev pub aim : ℕ
  aim = item_of room users by q pos (length start.items)

  way-few : (j : ℕ) → j ≤ depth_at q pos → suc j * (n + 1) ≤ k * (n + 1)
  way-few j l =
      let e : q.len ≤ k = search-within _ _ q G k begun (λ x via v z. B.items v ((modifies-to m via x v).0 z.3).0) in
      let i : suc j ≤ k = omega (arith, way-short _ _ q G pos h) in
      mul-le-mul_right (n + 1) i
    where
      begun : (via v : ℕ) → Begun m (named by) start.items via v → v < k
      begun via v (inl (j, i, a, z)) = rw z (rw (item_at-is start j) at (B.starting j i))
      begun via v (inr (a, b, c, d)) = B.items v ((makes-with m via v).0 d).0

  pub aim-small : aim < 1048576
  aim-small = go C.begins
    where
      go : Begun m (named by) start.items (via_at q (way_at q pos 0)) (value_at q (way_at q pos 0)) → aim < 1048576
      go (inl (j, i, a, z)) = rw (item_of-stands room users by q pos j (length start.items) a) (omega arith)
      go (inr (a, b, c, d)) = rw (item_of-made room users by q pos (length start.items) a) (omega arith)

  module _ (w : Writing) (S : Sofar m start 0 start.items w) where
    item-first : ItemReady m start (1 * (n + 1)) aim (value_at q (way_at q pos 0)) (item_to room users by q pos aim 1 w)
    item-first = go C.begins
      where
        go : Begun m (named by) start.items (via_at q (way_at q pos 0)) (value_at q (way_at q pos 0))
            → ItemReady m start (1 * (n + 1)) aim (value_at q (way_at q pos 0)) (item_to room users by q pos aim 1 w)
        go (inl (j, i, a, z)) =
            rw (item_of-stands room users by q pos j (length start.items) a, item-stands room users by q pos j w (omega arith))
            record { items = start.items; sofar = sofar-less m start (omega arith) S; there = i; content = sym z }
        go (inr (a, b, c, d)) =
            let v : ℕ = via_at q (way_at q pos 0) in
            let o : ℕ = value_at q (way_at q pos 0) in
            let t : ℕ = length start.items in
            let e : 1 * (n + 1) ≡ 0 + (n + 1) = omega arith in
            let y = way-few 0 (omega arith) in
            rw (item_of-made room users by q pos t a, item-made room users by q pos t w a, e)
            record {
              items = start.items ++ o ∷ [];
              sofar =
                  linked-sofar m start n room users by A 4 v t o (omega arith) a (omega arith) (way-byte _ _ q G pos h 0 (omega arith))
                  start.items (start.items ++ o ∷ []) (made m start n room users by A v o start.items d) 0 w (omega arith) (omega arith) b S;
              there = rw length-append (omega arith);
              content = get_or-append_seam start.items o [] 0;
            }

    -- along a link
    item-more : (c o v p : ℕ) (w : Writing) → Modify m (named by) o v p → p < 256 → c + (n + 1) ≤ room → c + (n + 1) ≤ 66049
        → ItemReady m start c aim o w → ItemReady m start (c + (n + 1)) aim p (linked room users by 5 v aim p w)
    item-more c o v p w (b, e, s, g) pf rf ff i =
        let l : List Item = set i.items aim p in
        let z : modifies_to m v (get_or i.items aim 0) p ≡ true = rw i.content g in
        record {
          items = l;
          sofar = linked-sofar m start n room users by A 5 v aim p (omega arith) b aim-small pf i.items l (modified m start n room users by A v aim p i.items i.there z) c w rf ff e i.sofar;
          there = rw length-set i.there;
          content = get_or-set_same i.items aim p 0 i.there;
        }

    item-next : (j : ℕ) → suc j ≤ depth_at q pos → ItemReady m start (suc j * (n + 1)) aim (value_at q (way_at q pos j)) (item_to room users by q pos aim (suc j) w)
        → ItemReady m start (suc (suc j) * (n + 1)) aim (value_at q (way_at q pos (suc j))) (item_to room users by q pos aim (suc (suc j)) w)
    item-next j l p =
        let e : suc (suc j) * (n + 1) ≡ suc j * (n + 1) + (n + 1) = suc-mul (suc j) (n + 1) in
        let y = way-few (suc j) l in
        let g : Modify m (named by) (value_at q (way_at q pos j)) (via_at q (way_at q pos (suc j))) (value_at q (way_at q pos (suc j))) = rw add-one at (C.goes j l) in
        rw (item-link room users by q pos aim j w, e) (item-more (suc j * (n + 1)) _ _ _ (item_to room users by q pos aim (suc j) w) g (way-byte _ _ q G pos h (suc j) l) (omega arith) (omega arith) p)

    item-to : (j : ℕ) → j ≤ depth_at q pos → ItemReady m start (suc j * (n + 1)) aim (value_at q (way_at q pos j)) (item_to room users by q pos aim (suc j) w)
    item-to zero l = item-first
    item-to (suc j) l = item-next j l (item-to j (omega arith))

    -- the whole way
    pub item-ready : ItemReady m start (k * (n + 1)) aim (value_at q pos) (item_to room users by q pos aim (depth_at q pos + 1) w)
    item-ready =
        let p : ItemReady m start (suc (depth_at q pos) * (n + 1)) aim (value_at q pos) (item_to room users by q pos aim (suc (depth_at q pos)) w)
        = rw C.last at (item-to (depth_at q pos) (omega arith))
        in
        rw (add-one (depth_at q pos))
        record { items = p.items; sofar = sofar-less m start (way-few (depth_at q pos) (omega arith)) p.sofar; there = p.there; content = p.content }
