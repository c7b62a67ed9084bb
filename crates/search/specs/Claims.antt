-- What is proved of searches: they are over when nothing more comes in, and have found exactly the closure. The proofs are in proofs/Theorems.antt.
-- Assumes nothing.
use Rattle.std.specs.Prelude.{◌≡◌, Bool, true, ◌⊎◌, ◌↔◌, List, ℕ, ◌+◌, ◌<◌, length, get_or}
use Rattle.lanes.specs.Lanes.{lane_of}
use Rattle.runs.specs.Model.{Model}
use Rattle.runs.specs.Edge.{opens_with, changes_to, makes_with, modifies_to}
use Rattle.runs.specs.Reach.{Star}
use Rattle.search.specs.Sessions.{sessions_found, own_found}
use Rattle.search.specs.Items.{one_found, any_found}
use Rattle.search.specs.Searched.{Searched}
use Rattle.search.specs.declared.queue.Found.{Found}

-- a link between session values of user u
abbrev pub Change : Model → ℕ → ℕ → ℕ → ℕ → Type 0
Change m u x via y = changes_to m u x y ≡ true

-- a link between item values: by a helper's session value
abbrev pub Modify : Model → (ℕ → Bool) → ℕ → ℕ → ℕ → Type 0
Modify m helper o v n = (v < 256) × (helper v ≡ true) × (m.session_value v ≡ true) × (modifies_to m v o n ≡ true)

-- a starting item, or one that is made
abbrev pub Begun : Model → (ℕ → Bool) → List ℕ → ℕ → ℕ → Type 0
Begun m helper values via o =
    ((j : ℕ) × (j < length values) × (via ≡ 256 + j) × (o ≡ get_or values j 0))
    ⊎ ((via < 256) × (helper via ≡ true) × (m.session_value via ≡ true) × (makes_with m via o ≡ true))

abbrev pub SessionsAreSearched : Type 0
SessionsAreSearched = (m : Model) (u : ℕ) → Searched (λ via v. opens_with m u v ≡ true) (Change m u) (sessions_found m u)

abbrev pub OwnIsSearched : Type 0
OwnIsSearched = (m : Model) (u held : ℕ) → held < 256 → Searched (λ via v. v ≡ held) (Change m u) (own_found m u held)

abbrev pub OneItemIsSearched : Type 0
OneItemIsSearched = (m : Model) (helper : ℕ → Bool) (j held : ℕ) → held < 256 → j < 256
    → Searched (λ via o. (via ≡ 256 + j) × (o ≡ held)) (Modify m helper) (one_found m helper j held)

abbrev pub AnyItemIsSearched : Type 0
AnyItemIsSearched = (m : Model) (helper : ℕ → Bool) (values : List ℕ) → length values < 256 → ((j : ℕ) → j < length values → get_or values j 0 < 256)
    → Searched (Begun m helper values) (Modify m helper) (any_found m helper values)

-- what is searched is what comes from the starts by links, where starts and links are of bytes
abbrev pub SearchedIsClosure : Type 1
SearchedIsClosure = (S : ℕ → ℕ → Type 0) (E : ℕ → ℕ → ℕ → Type 0) (q : Found) → Searched S E q
    → ((via v : ℕ) → S via v → v < 256) → ((x via v : ℕ) → E x via v → v < 256)
    → (v : ℕ) → v < 256 → (lane_of q.seen v ≡ true) ↔ Star (λ x. (via : ℕ) × S via x) (λ x y. (via : ℕ) × E x via y) v
