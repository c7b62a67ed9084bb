-- The rows of a leak: the item is brought to its value, each link by a session that stands open with the value that the link asks for; then the
-- session that is asked about; then the access.
-- Assumes nothing.
use Rattle.std.specs.Prelude.{cond, List, [], ◌∷◌, ℕ, zero, suc, ◌+◌, ◌-◌, leb, eqb, get_or}
use Rattle.search.specs.Searched.{value_at, via_at, depth_at, place_at}
use Rattle.search.specs.Path.{way_at}
use Rattle.search.specs.declared.queue.Found.{Found}
use Rattle.session_rows.specs.Writing.{Writing, row_of, wrote}
use Rattle.session_rows.specs.Way.{way_rows, helped, helped_by}
use Rattle.leak.specs.declared.Aim.{Aim}
use Rattle.leak.specs.declared.Actor.{Actor}
use Rattle.leak.specs.declared.Actor.TheVariants.{Session, User, Anyone}

module _ (room : ℕ) (users : List Found) (by : List ℕ) where
  -- a session that stands open with value v does a step of the kind on item t with value o
  unfoldable pub linked : ℕ → ℕ → ℕ → ℕ → Writing → Writing
  linked kind v t o w =
      let h = helped room users by v w in
      wrote room (row_of kind (get_or h.number v 0 - 1) t o ∷ []) h

  -- the first j steps on the way to place pos of the search of items: a start that is made, or that stands, then links
  unfoldable pub item_to : Found → ℕ → ℕ → ℕ → Writing → Writing
  item_to q pos t zero w = w
  item_to q pos t (suc j) w =
      let r = item_to q pos t j w in
      let p = way_at q pos j in
      let v = via_at q p in
      cond (eqb j 0) (cond (leb 256 v) r (linked 4 v t (value_at q p) r)) (linked 5 v t (value_at q p) r)

  -- the item that the way to place pos is of: a starting one, or the next one
  unfoldable pub item_of : Found → ℕ → ℕ → ℕ
  item_of q pos items = let v = via_at q (way_at q pos 0) in cond (leb 256 v) (v - 256) items

  -- the session that acts is brought to value v: a starting session by its own search, one of a user, or any
  unfoldable pub ready_by : Found → ℕ → Actor → Writing → Writing
  ready_by own v (Session number owner) w = wrote room (way_rows own (place_at own v - 1) 1 owner number) w
  ready_by own v (User u) w = helped_by room users by u v w
  ready_by own v Anyone w = helped room users by v w

  unfoldable pub actor_ready : Found → Aim → Writing → Writing
  actor_ready own a w = ready_by own a.value a.actor w

  -- its number
  unfoldable pub number_by : ℕ → Actor → Writing → ℕ
  number_by v (Session number owner) w = number
  number_by v (User u) w = get_or w.number v 0 - 1
  number_by v Anyone w = get_or w.number v 0 - 1

  unfoldable pub actor_of : Aim → Writing → ℕ
  actor_of a w = number_by a.value a.actor w

  -- the whole leak: the item at place pos of the search q, the actor, the access
  unfoldable pub leak_written : Found → ℕ → Found → Aim → Writing → Writing
  leak_written q pos own a w =
      let t = item_of q pos a.items in
      let i = item_to q pos t (depth_at q pos + 1) w in
      let s = actor_ready own a i in
      wrote room (row_of 6 (actor_of a s) t a.permission ∷ []) s
