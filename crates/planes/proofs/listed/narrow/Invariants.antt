-- `planes::listed::narrow` meets its contract. The loop's invariant: nothing stands left of bit k.
use mathlib.Core.Path.{◌≡◌}
use Prim.Native.Nat.{◌/◌, ◌^◌, ◌≤◌}
use lib.Dec.{eqb}
use Rattle.planes.specs.Word.{Told}
use Rattle.planes.proofs.listed.narrow.Given as goal

abbrev pub invariant-loop-k : goal.invariant-loop-k
invariant-loop-k l = (8 ≤ l.n → l.k ≡ 8) × (l.n ≤ 8 → l.n ≤ l.k) × Told l.planes (λ v. eqb (v / 2 ^ l.k) 0) l.r
