-- The six kinds of step [01:Runs, the list]: what each asks, and what it does (001's Table 3).
-- `Carried` is the sum of the kinds, so that a further kind is one more case.
-- Assumes nothing.
use Rattle.std.specs.Prelude.{◌≡◌, true, [], ◌∷◌, ◌++◌, ℕ, ◌<◌, length, set}
use Rattle.runs.specs.Model.{Model}
use Rattle.runs.specs.State.{closed, opened, State, session_at, item_at}

-- four whole numbers
pub record Step : Type 0 where
  pub kind : ℕ
  pub actor : ℕ
  pub target : ℕ
  pub value : ℕ

-- 1: actor a user, target the session list's length, value in the lists; adds an open session with that user and value
pub record Opens (m : Model) (s : State) (p : Step) (after : State) : Type 0 where
  pub kind : p.kind ≡ 1
  pub user : p.actor < m.users
  pub next : p.target ≡ length s.sessions
  pub listed : m.session_value p.value ≡ true
  pub allowed : m.may_open p.actor p.value ≡ true
  pub state : after ≡ record { sessions = s.sessions ++ opened p.actor p.value ∷ []; items = s.items }

-- 2: target an open session of user actor, value 0; closes it
pub record Closes (m : Model) (s : State) (p : Step) (after : State) : Type 0 where
  pub kind : p.kind ≡ 2
  pub held : ℕ
  pub owner : session_at s p.target ≡ opened p.actor held
  pub nothing : p.value ≡ 0
  pub state : after ≡ record { sessions = set s.sessions p.target closed; items = s.items }

-- 3: target an open session of user actor, value in the lists; it takes the value
pub record Changes (m : Model) (s : State) (p : Step) (after : State) : Type 0 where
  pub kind : p.kind ≡ 3
  pub held : ℕ
  pub owner : session_at s p.target ≡ opened p.actor held
  pub listed : m.session_value p.value ≡ true
  pub allowed : m.may_change p.actor held p.value ≡ true
  pub state : after ≡ record { sessions = set s.sessions p.target (opened p.actor p.value); items = s.items }

-- 4: actor an open session, target the item list's length, value in the lists; adds an item with it
pub record Makes (m : Model) (s : State) (p : Step) (after : State) : Type 0 where
  pub kind : p.kind ≡ 4
  pub user : ℕ
  pub held : ℕ
  pub actor : session_at s p.actor ≡ opened user held
  pub next : p.target ≡ length s.items
  pub listed : m.item_value p.value ≡ true
  pub allowed : m.may_make held p.value ≡ true
  pub state : after ≡ record { sessions = s.sessions; items = s.items ++ p.value ∷ [] }

-- 5: actor an open session, target an item, value in the lists; the item takes it
pub record Modifies (m : Model) (s : State) (p : Step) (after : State) : Type 0 where
  pub kind : p.kind ≡ 5
  pub user : ℕ
  pub held : ℕ
  pub actor : session_at s p.actor ≡ opened user held
  pub there : p.target < length s.items
  pub listed : m.item_value p.value ≡ true
  pub allowed : m.may_modify held (item_at s p.target) p.value ≡ true
  pub state : after ≡ record { sessions = s.sessions; items = set s.items p.target p.value }

-- 6: actor an open session, target an item, value a permission; a grant, changing nothing
pub record Grants (m : Model) (s : State) (p : Step) (after : State) : Type 0 where
  pub kind : p.kind ≡ 6
  pub user : ℕ
  pub held : ℕ
  pub actor : session_at s p.actor ≡ opened user held
  pub there : p.target < length s.items
  pub permission : p.value < m.permissions
  pub allowed : m.may_access p.value held (item_at s p.target) ≡ true
  pub state : after ≡ s

-- a step that is carried out, and the state after it
pub data Carried (m : Model) (s : State) (p : Step) (after : State) : Type 0 where
  opens : Opens m s p after → Carried m s p after
  closes : Closes m s p after → Carried m s p after
  changes : Changes m s p after → Carried m s p after
  makes : Makes m s p after → Carried m s p after
  modifies : Modifies m s p after → Carried m s p after
  grants : Grants m s p after → Carried m s p after
