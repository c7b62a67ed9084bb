-- What a row does to the live state [01:Steps; When a number is given instead, 12 to 16; 001's Table 3].
-- Each kind is a row of tests with the number that each gives, in the paper's order, and what is done where all hold.
-- For any model: rules come in through theirs.
-- Assumes nothing.
use Rattle.std.specs.Prelude.{◌||◌, List, [], ◌∷◌, ℕ, zero, suc, ◌+◌, ltb, eqb, set}
use Rattle.std.proofs.Math.Option.{Option}
use Rattle.runs.specs.Model.{Model}
use Rattle.runs.specs.State.{Session}
use Rattle.runs.specs.Step.{Step}
use Rattle.cells.specs.Row.{parts_of, step_of}
use Rattle.cells.specs.Cell.{place_of, open_cell, closed_cell, item_cell, session_at, item_at}
use Rattle.live.specs.Lent.{Lent, After, refused, done, tested, of_session, of_item, all_given, left}

-- session number k, as it reads
unfoldable pub session_now : Model → Lent → ℕ → Session
session_now m s k = session_at m.users m.session_value s.sessions s.next.session k

-- item number k, as it reads
unfoldable pub item_now : Model → Lent → ℕ → Option ℕ
item_now m s k = item_at m.item_value s.items s.next.item k

-- the cell of session k is written
unfoldable pub with_session : Lent → ℕ → ℕ → Lent
with_session s k c = record { sessions = set s.sessions (place_of k) c; items = s.items; next = s.next }

-- the cell of item k is written
unfoldable pub with_item : Lent → ℕ → ℕ → Lent
with_item s k c = record { sessions = s.sessions; items = set s.items (place_of k) c; next = s.next }

-- the next session number is given
unfoldable pub session_given : Lent → Lent
session_given s = record { sessions = s.sessions; items = s.items; next = record { session = s.next.session + 1; item = s.next.item } }

-- the next item number is given
unfoldable pub item_given : Lent → Lent
item_given s = record { sessions = s.sessions; items = s.items; next = record { session = s.next.session; item = s.next.item + 1 } }

module _ (m : Model) (s : Lent) (p : Step) where
  -- 1: actor a user, target the next session number, value in the lists
  unfoldable pub opening : After
  opening =
      let next = s.next.session in
      tested
      ((ltb p.actor m.users, 13)
      ∷ (all_given next || eqb p.target next, 13)
      ∷ (m.session_value p.value, 14)
      ∷ (left s.sessions next, 15)
      ∷ (m.may_open p.actor p.value, 16)
      ∷ [])
      s (done (session_given (with_session s next (open_cell p.actor p.value))))

  -- 2: target an open session of user actor, value 0
  unfoldable pub closing : After
  closing =
      tested ((eqb p.value 0, 12) ∷ []) s
      (of_session (session_now m s p.target) s λ u v. tested ((eqb p.actor u, 13) ∷ []) s (done (with_session s p.target closed_cell)))

  -- 3: target an open session of user actor, value in the lists
  unfoldable pub changing : After
  changing =
      of_session (session_now m s p.target) s λ u v.
      tested ((eqb p.actor u, 13) ∷ (m.session_value p.value, 14) ∷ (m.may_change u v p.value, 16) ∷ []) s
      (done (with_session s p.target (open_cell u p.value)))

  -- 4: actor an open session, target the next item number, value in the lists
  unfoldable pub making : After
  making =
      let next = s.next.item in
      of_session (session_now m s p.actor) s λ u v.
      tested
      ((all_given next || eqb p.target next, 13) ∷ (m.item_value p.value, 14) ∷ (left s.items next, 15) ∷ (m.may_make v p.value, 16) ∷ [])
      s (done (item_given (with_item s next (item_cell p.value))))

  -- 5: actor an open session, target an item, value in the lists
  unfoldable pub modifying : After
  modifying =
      of_session (session_now m s p.actor) s λ u v.
      of_item (item_now m s p.target) s λ o.
      tested ((m.item_value p.value, 14) ∷ (m.may_modify v o p.value, 16) ∷ []) s (done (with_item s p.target (item_cell p.value)))

  -- 6: actor an open session, target an item, value a permission; changes nothing
  unfoldable pub accessing : After
  accessing =
      of_session (session_now m s p.actor) s λ u v.
      of_item (item_now m s p.target) s λ o.
      tested ((ltb p.value m.permissions, 13) ∷ (m.may_access p.value v o, 16) ∷ []) s (done s)

  -- by the kind
  unfoldable pub by_kind : ℕ → After
  by_kind zero = refused 12 s
  by_kind (suc zero) = opening
  by_kind (suc (suc zero)) = closing
  by_kind (suc (suc (suc zero))) = changing
  by_kind (suc (suc (suc (suc zero)))) = making
  by_kind (suc (suc (suc (suc (suc zero))))) = modifying
  by_kind (suc (suc (suc (suc (suc (suc zero)))))) = accessing
  by_kind (suc (suc (suc (suc (suc (suc (suc k))))))) = refused 12 s

-- what a row does
unfoldable pub step_in : Model → Lent → ℕ → After
step_in m s row =
    let r = parts_of row in
    let p = step_of r in
    tested ((eqb r.spare 0, 12) ∷ []) s (by_kind m s p p.kind)

-- the state that a list of rows leaves
unfoldable pub steps_in : Model → Lent → List ℕ → Lent
steps_in m s [] = s
steps_in m s (row ∷ rows) = steps_in m (step_in m s row).lent rows
