-- One step on the way of an item, as the program takes it.
-- Assumes nothing.
use Rattle.std.specs.Prelude.{cond, List, ℕ, leb, eqb}
use Rattle.search.specs.Searched.{value_at, via_at}
use Rattle.search.specs.Path.{way_at}
use Rattle.search.specs.declared.queue.Found.{Found}
use Rattle.session_rows.specs.Writing.{Writing}
use Rattle.leak.specs.Leak.{linked}

-- step j on the way to place pos: a start that is made, or that stands; or a link
unfoldable pub item_turn : ℕ → List Found → List ℕ → Found → ℕ → ℕ → ℕ → Writing → Writing
item_turn room users by q pos t j r =
    let p = way_at q pos j in
    let v = via_at q p in
    cond (eqb j 0) (cond (leb 256 v) r (linked room users by 4 v t (value_at q p) r)) (linked room users by 5 v t (value_at q p) r)
