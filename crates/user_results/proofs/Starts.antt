-- Laws of the starting sessions: each is found by its user. Not here: the pen, in which they stand open (the crate asked).
use mathlib.Core.Path.{◌≡◌, refl, ap, ◌∙◌}
use mathlib.Core.Bool.{Bool, true, false, ◌&&◌}
use mathlib.Core.List.{List, [], ◌∷◌}
use mathlib.Core.Logic.{⊎_elim}
use Prim.Native.Nat.{ℕ, zero, suc, ◌≤◌, ◌<◌}
use native.Mathlib.Omega.{arith}
use lib.ListN.{length, get_or, get_or-eq_default}
use Rattle.lanes.specs.Lanes.{lane_of}
use Rattle.lanes.proofs.Words.{lane_past}
use Rattle.lanes.proofs.Laws.{lt-or-ge}
use Rattle.policy.specs.Policy.{Session}
use Rattle.search.specs.Queue.{nothing}
use Rattle.search.specs.declared.queue.Found.{Found}
use Rattle.search.proofs.Turns.{nothing_seen, nothing-sized}
use Rattle.user_results.specs.Found.{user_found, all_found}

-- whether a starting session's value was found by its user's search
abbrev pub brought : List Found → Session → Bool
brought users t = lane_of (user_found users t.user).seen t.value

module _ (users : List Found) (d : Session) where
  pub found_all : (l : List Session) → ((k : ℕ) → k < length l → brought users (get_or l k d) ≡ true) → true ≡ all_found users l
  unfolding all_found
  found_all [] h = refl
  found_all (t ∷ l) h = let e : brought users t ≡ true = h 0 (omega arith) in rw e (found_all l (λ k b. h (suc k) (omega arith)))

  pub found-not : (l : List Session) (k : ℕ) → k < length l → brought users (get_or l k d) ≡ false → false ≡ all_found users l
  unfolding all_found
  found-not [] k h e = absurd (omega arith)
  found-not (t ∷ l) zero h e = rw e refl
  found-not (t ∷ l) (suc k) h e = go (brought users t) (found-not l k (omega arith) e)
    where
      go : (b : Bool) → false ≡ all_found users l → false ≡ b && all_found users l
      go true i = i
      go false i = refl

-- of users that are not there nothing was found
pub brought-none : (users : List Found) (u v : ℕ) → length users ≤ u → lane_of (user_found users u).seen v ≡ false
brought-none users u v h =
    ap (λ (q : Found). lane_of q.seen v) (get_or-eq_default users nothing h)
    ∙ ⊎_elim (λ (b : v < 256). nothing_seen v b) (λ (b : 256 ≤ v). lane_past nothing.seen v nothing-sized.seen b) (lt-or-ge v 256)
