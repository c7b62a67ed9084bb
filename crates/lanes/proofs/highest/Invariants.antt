-- `lanes::highest` meets its contract. The loop's invariant: the words from word q on are 0.
use mathlib.Core.Path.{◌≡◌}
use Prim.Native.Nat.{ℕ, ◌<◌, ◌≤◌}
use lib.ListN.{get_or}
use Rattle.lanes.proofs.highest.Given as goal

abbrev pub invariant-loop-q : goal.invariant-loop-q
invariant-loop-q l = (i : ℕ) → l.q ≤ i → i < 4 → get_or l.x i 0 ≡ 0
