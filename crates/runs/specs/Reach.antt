-- What sessions and items can come to have, as closures of what the rules allow, without runs [01:The question].
-- In order: closures; values of sessions; values of items; what one that is asked about can have; a granted pair.
-- Assumes nothing.
use Rattle.std.specs.Prelude.{◌≡◌, ◌⊎◌, true, ℕ, ◌<◌, length}
use Rattle.runs.specs.Model.{Model}
use Rattle.runs.specs.State.{opened, State, session_at, item_at}
use Rattle.runs.specs.Grant.{Who, session, user, anyone, Which, item, anything}

-- what comes from S by any number of edges E
pub data Star {A : Type 0} (S : A → Type 0) (E : A → A → Type 0) : A → Type 0 where
  base : {x : A} → S x → Star S E x
  more : {x y : A} → Star S E x → E x y → Star S E y

module _ (m : Model) where
  -- user u may open a session with value v
  abbrev pub OpenedWith : ℕ → ℕ → Type 0
  OpenedWith u v = (u < m.users) × (m.session_value v ≡ true) × (m.may_open u v ≡ true)

  -- user u may change a session from value v to value w
  abbrev pub ChangedTo : ℕ → ℕ → ℕ → Type 0
  ChangedTo u v w = (m.session_value w ≡ true) × (m.may_change u v w ≡ true)

  -- sessions of user u can have value v: opened, then changed any number of times
  abbrev pub Reach : ℕ → ℕ → Type 0
  Reach u = Star (OpenedWith u) (ChangedTo u)

  -- one session of user u that has value held can come to have v: by its own changes, never by those of a sister session
  abbrev pub ReachFrom : ℕ → ℕ → ℕ → Type 0
  ReachFrom u held = Star (λ v. held ≡ v) (ChangedTo u)

  -- a session that some user can have may make an item with value o
  abbrev pub MadeWith : ℕ → Type 0
  MadeWith o = (u : ℕ) × (v : ℕ) × Reach u v × (m.item_value o ≡ true) × (m.may_make v o ≡ true)

  -- a session that some user can have may change an item from value o to value n
  abbrev pub ModifiedTo : ℕ → ℕ → Type 0
  ModifiedTo o n = (u : ℕ) × (v : ℕ) × Reach u v × (m.item_value n ≡ true) × (m.may_modify v o n ≡ true)

  -- an item that has value held can come to have o
  abbrev pub ItemFrom : ℕ → ℕ → Type 0
  ItemFrom held = Star (λ o. held ≡ o) ModifiedTo

  -- an item that is made can come to have o
  abbrev pub ItemMade : ℕ → Type 0
  ItemMade = Star MadeWith ModifiedTo

module _ (m : Model) (start : State) where
  -- every starting session is one that its user could have brought about [01:When a number is given instead, 9]
  abbrev pub Brought : Type 0
  Brought = (k u v : ℕ) → session_at start k ≡ opened u v → Reach m u v

  -- a session that is asked about can be one of user u with value v
  abbrev pub WhoReach : Who → ℕ → ℕ → Type 0
  WhoReach (session k) u v = (held : ℕ) × (session_at start k ≡ opened u held) × ReachFrom m u held v
  WhoReach (user a) u v = (u ≡ a) × Reach m u v
  WhoReach anyone u v = Reach m u v

  -- an item that is asked about can have value o
  abbrev pub WhichReach : Which → ℕ → Type 0
  WhichReach (item k) o = ItemFrom m (item_at start k) o
  WhichReach anything o = ItemMade m o ⊎ ((k : ℕ) × (k < length start.items) × ItemFrom m (item_at start k) o)

  -- a session that is asked about by its number is a starting one [01:When a number is given instead, 10]
  abbrev pub AskedWho : Who → Type 0
  AskedWho (session k) = k < length start.sessions
  AskedWho (user a) = Unit {0}
  AskedWho anyone = Unit {0}

  -- an item that is asked about by its number is a starting one
  abbrev pub AskedWhich : Which → Type 0
  AskedWhich (item k) = k < length start.items
  AskedWhich anything = Unit {0}

  -- the closures hold a session value and an item value of which the permission's formula is true
  pub record Risk (who : Who) (which : Which) (permission : ℕ) : Type 0 where
    pub owner : ℕ
    pub held : ℕ
    pub content : ℕ
    pub actor : WhoReach who owner held
    pub target : WhichReach which content
    pub known : permission < m.permissions
    pub allowed : m.may_access permission held content ≡ true
