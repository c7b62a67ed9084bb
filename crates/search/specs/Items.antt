-- Searches of item values: what an item can have that starts with some value, or that is made, by sessions with values that some session can have.
-- Of a start `via` says what it is: the session value that makes it, or 256 plus the number of a starting item. Of a link it is the session value.
-- Where several session values would do, the last is taken: a helper that stands open is then used again.
-- Assumes nothing.
use Rattle.std.specs.Prelude.{◌≡◌, Bool, true, not, ◌&&◌, cond, List, ℕ, zero, suc, ◌+◌, ◌-◌, ◌<◌, ltb, length, get_or}
use Rattle.lanes.specs.Lanes.{lane_of, some_below, last_below}
use Rattle.runs.specs.Model.{Model}
use Rattle.runs.specs.Edge.{makes_with, modifies_to}
use Rattle.search.specs.Queue.{nothing, pushed, unmet, spread}
use Rattle.search.specs.declared.queue.Found.{Found}

-- only session values in the lists are among ready
abbrev pub Had : Model → List ℕ → Type 0
Had m ready = (v : ℕ) → v < 256 → lane_of ready v ≡ true → m.session_value v ≡ true

-- `ready`: the session values that can be had
module _ (m : Model) (ready : ℕ → Bool) where
  -- the last of them that may make an item with value n; 256 where none may
  unfoldable pub last_maker : ℕ → ℕ
  last_maker n = last_below (λ v. ready v && (m.session_value v && makes_with m v n)) 256

  -- by item values: of those below n that aren't found yet, the ones that can be made
  unfoldable pub asked : Found → ℕ → Found
  asked q zero = q
  asked q (suc n) =
      let r = asked q n in
      cond (unmet m.item_value q n && ltb (last_maker n) 256) (pushed r n 0 (last_maker n)) r

  -- by the session value 255 - k: what it may change an item with value o to, which stands at place i, while some item value isn't found yet
  abbrev pub offered_by : ℕ → Found → ℕ → ℕ → Found
  offered_by o q i k = cond (ready (255 - k) && some_below (unmet m.item_value q) 256) (spread (modifies_to m (255 - k) o) q (i + 1) (255 - k)) q

  -- by the last k session values, of the item value at place i
  unfoldable pub offered : Found → ℕ → ℕ → Found
  offered q i zero = q
  offered q i (suc k) = offered_by (get_or q.order i 0) (offered q i k) i k

  -- from place i, if there is one, while some item value isn't found yet
  abbrev pub items_at : Found → ℕ → Found
  items_at q i = cond (ltb i q.len && some_below (unmet m.item_value q) 256) (offered q i 256) q

  -- from the places below i
  unfoldable pub grow_items : Found → ℕ → Found
  grow_items q zero = q
  grow_items q (suc i) = items_at (grow_items q i) i

-- a value that helpers have, in the lists
unfoldable pub ready_of : Model → (ℕ → Bool) → ℕ → Bool
ready_of m helper v = helper v && m.session_value v

-- one starting item: its number and value
unfoldable pub one_found : Model → (ℕ → Bool) → ℕ → ℕ → Found
one_found m helper j held = grow_items m (ready_of m helper) (pushed nothing held 0 (256 + j)) 256

-- the first n of the starting items, by their values
unfoldable pub start_roots : List ℕ → Found → ℕ → Found
start_roots values q zero = q
start_roots values q (suc j) =
    let r = start_roots values q j in
    cond (not (lane_of r.seen (get_or values j 0))) (pushed r (get_or values j 0) 0 (256 + j)) r

-- any item: the starting ones, then those that are made
unfoldable pub any_found : Model → (ℕ → Bool) → List ℕ → Found
any_found m helper values =
    grow_items m (ready_of m helper) (asked m (ready_of m helper) (start_roots values nothing (length values)) 256) 256
