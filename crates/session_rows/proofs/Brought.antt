-- Laws of the next number after a session is brought, and after help.
use mathlib.Core.Path.{◌≡◌, ap}
use mathlib.Core.List.{List}
use mathlib.Core.Bool.{Bool, true, false, cond}
use Prim.Native.Nat.{ℕ, ◌+◌, ◌-◌, ◌≤◌}
use native.Mathlib.Omega.{arith}
use lib.Dec.{eqb}
use lib.ListN.{get_or}
use Rattle.search.specs.Queue.{nothing}
use Rattle.search.specs.Searched.{place_at}
use Rattle.search.specs.declared.queue.Found.{Found}
use Rattle.session_rows.specs.Writing.{Writing, stood}
use Rattle.session_rows.specs.Way.{way_rows, brought, helped}
use Rattle.session_rows.proofs.Laws.{wrote-next}

-- the next number of one of two
pub pick_next : (b : Bool) (w v : Writing) (k : ℕ) → w.next ≤ k → v.next ≤ k → (cond b w v).next ≤ k
pick_next true w v k g h = g
pick_next false w v k g h = h

brought-next : (room : ℕ) (q : Found) (u v : ℕ) (w : Writing) → (brought room q u v w).next ≡ w.next + 1
unfolding brought stood
brought-next room q u v w = ap (λ (n : ℕ). n + 1) (wrote-next room (way_rows q (place_at q v - 1) 0 u w.next) w)

module _ (room : ℕ) (users : List Found) (by : List ℕ) where
  pub helped-next : (v : ℕ) (w : Writing) → (helped room users by v w).next ≤ w.next + 1
  unfolding helped
  helped-next v w =
      pick_next (eqb (get_or w.number v 0) 0) (brought room (get_or users (get_or by v 0 - 1) nothing) (get_or by v 0 - 1) v w) w (w.next + 1)
      (omega (arith, brought-next room (get_or users (get_or by v 0 - 1) nothing) (get_or by v 0 - 1) v w)) (omega arith)
