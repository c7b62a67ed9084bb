-- Values in the order found, as the program keeps them. Private vocabulary of the search: nothing here has to be believed, since what is found is
-- tied to closures by the claims.
-- Assumes nothing.
use Rattle.std.specs.Prelude.{Bool, not, ◌&&◌, cond, List, ℕ, zero, suc, ◌+◌, ◌-◌, ◌%◌, leb, eqb, get_or, set, replicate}
use Rattle.lanes.specs.Lanes.{lane_of, added}
use Rattle.search.specs.declared.queue.Found.{Found}

-- nothing found
unfoldable pub nothing : Found
nothing =
    record {
      seen = replicate 4 0;
      order = replicate 256 0;
      from = replicate 256 0;
      via = replicate 256 0;
      depth = replicate 256 0;
      place = replicate 256 0;
      len = 0;
    }

-- links from a start, by the depths of places, of a value that is found from a place (its number plus 1) or is a start (0)
unfoldable pub depth_after : List ℕ → ℕ → ℕ
depth_after depth from = cond (eqb from 0) 0 (cond (leb 256 (from - 1)) 0 ((get_or depth (from - 1) 0 + 1) % 65536))

-- y at the end, where there is room
unfoldable pub pushed : Found → ℕ → ℕ → ℕ → Found
pushed q y from via =
    cond (leb 256 q.len) q
    record {
      seen = added q.seen y;
      order = set q.order q.len y;
      from = set q.from q.len from;
      via = set q.via q.len via;
      depth = set q.depth q.len (depth_after q.depth from);
      place = set q.place y (q.len + 1);
      len = q.len + 1;
    }

-- whether n is one of the values asked for, and not found yet
unfoldable pub unmet : (ℕ → Bool) → Found → ℕ → Bool
unmet within q n = within n && not (lane_of q.seen n)

-- each of the numbers below n that f holds of and that q has not seen
unfoldable pub spread_to : (ℕ → Bool) → Found → ℕ → ℕ → ℕ → Found
spread_to f q from via zero = q
spread_to f q from via (suc n) =
    let r = spread_to f q from via n in
    cond (unmet f q n) (pushed r n from via) r

-- all of them
unfoldable pub spread : (ℕ → Bool) → Found → ℕ → ℕ → Found
spread f q from via = spread_to f q from via 256
