-- What runs come to. In order: what stands after some run; steps that are all carried out; how wide values are; a leak of such steps, in few rows.
-- Assumes nothing.
use Rattle.std.specs.Prelude.{◌≡◌, true, List, [], ◌∷◌, ℕ, ◌+◌, ◌≤◌, ◌<◌, length}
use Rattle.runs.specs.Model.{Model}
use Rattle.runs.specs.State.{opened, State, session_at, item_at}
use Rattle.runs.specs.Step.{Step, Carried}
use Rattle.runs.specs.Run.{run}
use Rattle.runs.specs.Grant.{Who, Which, IsWhich, Fits}

-- after some run, the empty one too, a session of user u with value v is open
pub record SessionStands (m : Model) (start : State) (u v : ℕ) : Type 0 where
  pub steps : List Step
  pub number : ℕ
  pub stands : session_at (run m start steps) number ≡ opened u v

-- after some run, the empty one too, an item that is asked about has value o
pub record ItemStands (m : Model) (start : State) (which : Which) (o : ℕ) : Type 0 where
  pub steps : List Step
  pub number : ℕ
  pub asked : IsWhich which number
  pub there : number < length (run m start steps).items
  pub content : item_at (run m start steps) number ≡ o

-- steps that are all carried out, from a state to a state
pub data CarriedAll (m : Model) : State → List Step → State → Type 0 where
  stop : {s : State} → CarriedAll m s [] s
  then : {s next after : State} {p : Step} {ps : List Step} → Carried m s p next → CarriedAll m next ps after → CarriedAll m s (p ∷ ps) after

-- session values are below n and item values below k: those that are in the lists, and those of the starting items
pub record Below (m : Model) (start : State) (n k : ℕ) : Type 0 where
  pub sessions : (v : ℕ) → m.session_value v ≡ true → v < n
  pub items : (o : ℕ) → m.item_value o ≡ true → o < k
  pub starting : (j : ℕ) → j < length start.items → item_at start j < k

-- a leak of at most n rows, the grant among them, and no row is refused
pub record LeakWithin (m : Model) (start : State) (who : Who) (which : Which) (permission : ℕ) (n : ℕ) : Type 0 where
  pub steps : List Step
  pub last : Step
  pub before : State
  pub carried : CarriedAll m start steps before
  pub fits : Fits m before who which permission last
  pub short : length steps + 1 ≤ n
