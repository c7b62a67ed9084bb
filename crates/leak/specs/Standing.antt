-- What the rows so far have brought about in a run, and what a leak needs of the searches.
-- Assumes nothing.
use Rattle.std.specs.Prelude.{◌≡◌, true, List, map, ℕ, ◌+◌, ◌-◌, ◌≤◌, ◌<◌, length, get_or}
use Rattle.lanes.specs.Lanes.{lane_of}
use Rattle.runs.specs.Model.{Model}
use Rattle.runs.specs.State.{opened, State, session_at}
use Rattle.runs.specs.Edge.{accesses}
use Rattle.runs.specs.Grant.{Who, session, user, anyone, Which, item, anything}
use Rattle.runs.specs.Reach.{Brought}
use Rattle.runs.specs.Outcome.{CarriedAll}
use Rattle.cells.specs.Row.{parts_of, row_step}
use Rattle.search.specs.Queue.{nothing}
use Rattle.search.specs.Sessions.{sessions_found, own_found}
use Rattle.search.specs.Searched.{Good, value_at, via_at}
use Rattle.search.specs.Path.{way_at}
use Rattle.search.specs.Claims.{Modify, Begun}
use Rattle.search.specs.declared.queue.Found.{Found}
use Rattle.session_rows.specs.Writing.{Writing}
use Rattle.user_results.specs.Found.{named}
use Rattle.leak.specs.declared.Aim.{Aim}
use Rattle.leak.specs.declared.Actor.TheVariants.{Session, User, Anyone}

-- the rows were carried out from the start to s; the next number is s's; and the sessions that are said to stand open do
pub record Stands (m : Model) (start : State) (w : Writing) (s : State) : Type 0 where
  pub carried : CarriedAll m start (map row_step w.rows) s
  pub plain : map (λ row. (parts_of row).spare) w.rows ≡ map (λ row. 0) w.rows
  pub next : w.next ≡ length s.sessions
  pub few : w.next ≤ length start.sessions + length w.rows
  pub sized : (length w.number ≡ 256) × (length w.owner ≡ 256)
  pub standing : (v j : ℕ) → v < 256 → get_or w.number v 0 ≡ j + 1 → session_at s j ≡ opened (get_or w.owner v 0) v

-- each user's search is there, and a user that is named for a value can have it
pub record Ready (m : Model) (users : List Found) (by : List ℕ) : Type 0 where
  pub users-searched : (u : ℕ) → u < m.users → get_or users u nothing ≡ sessions_found m u
  pub named-user : (v : ℕ) → v < 256 → named by v ≡ true → get_or by v 0 - 1 < m.users
  pub named-reaches : (v : ℕ) → v < 256 → named by v ≡ true → lane_of (sessions_found m (get_or by v 0 - 1)).seen v ≡ true

-- who is asked about, as the aim says it, can have the aim's value
abbrev pub WhoAimed : Model → State → List ℕ → Found → Aim → Who → Type 0
WhoAimed m start by own a (session j) =
    ((owner : ℕ) × (a.actor ≡ Session j owner) × ((held : ℕ) × (session_at start j ≡ opened owner held) × (held < 256) × (own ≡ own_found m owner held)))
    × (lane_of own.seen a.value ≡ true)
WhoAimed m start by own a (user u) = (a.actor ≡ User u) × (u < m.users) × (lane_of (sessions_found m u).seen a.value ≡ true)
WhoAimed m start by own a anyone = (a.actor ≡ Anyone) × (named by a.value ≡ true)

-- the way to place pos is one of an item that is asked about
abbrev pub WhichAimed : Found → ℕ → Which → Type 0
WhichAimed q pos (item j) = via_at q (way_at q pos 0) ≡ 256 + j
WhichAimed q pos anything = Unit {0}

-- what the analyser has found, where there is a leak
pub record Aimed (m : Model) (start : State) (users : List Found) (by : List ℕ) (q : Found) (pos : ℕ) (own : Found) (a : Aim) (who : Who) (which : Which) : Type 0 where
  pub brought : Brought m start
  pub ready : Ready m users by
  pub searched : Good (Begun m (named by) start.items) (Modify m (named by)) q
  pub place : pos < q.len
  pub value : a.value < 256
  pub permission : a.permission < 256
  pub items : a.items ≡ length start.items
  pub few-items : length start.items ≤ 32
  pub few-sessions : length start.sessions ≤ 32
  pub few-users : m.users ≤ 16
  pub who-aimed : WhoAimed m start by own a who
  pub which-aimed : WhichAimed q pos which
  pub granted : accesses m a.permission a.value (value_at q pos) ≡ true
