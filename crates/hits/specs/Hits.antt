-- The first hit: a place of a search of items, and a session value that has the permission on the value there. The analyser's own vocabulary: nothing here has
-- to be believed.
-- Assumes nothing.
use Rattle.std.specs.Prelude.{◌≡◌, ◌<◌, Bool, ◌&&◌, ℕ, ltb, get_or, Option, MatchOption}
use Rattle.lanes.specs.Lanes.{first_from}
use Rattle.runs.specs.Model.{Model}
use Rattle.runs.specs.Edge.{accesses}
use Rattle.search.specs.declared.queue.Found.{Found}
use Rattle.hits.specs.declared.Hit.{Hit}

-- the first session value that is asked about and has the permission on the value at place i of the search q; 256 where there is none
unfoldable pub hit_value : Model → ℕ → (ℕ → Bool) → Found → ℕ → ℕ
hit_value m permission who q i = first_from (λ v. who v && (m.session_value v && accesses m permission v (get_or q.order i 0))) 0 256

-- the first place with one; 256 where there is none
unfoldable pub hit_place : Model → ℕ → (ℕ → Bool) → Found → ℕ
hit_place m permission who q = first_from (λ i. ltb i q.len && ltb (hit_value m permission who q i) 256) 0 256

-- the first hit of the search q, or nothing where there is none
abbrev pub IsFirst : Model → ℕ → (ℕ → Bool) → Found → Option Hit → Type 0
IsFirst m permission who q h =
    MatchOption h (hit_place m permission who q ≡ 256)
    (λ x. (x.place ≡ hit_place m permission who q) × (x.place < 256) × (x.value ≡ hit_value m permission who q x.place))
