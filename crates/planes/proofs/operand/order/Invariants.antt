-- `planes::operand::order` meets its contract. The loop's invariant: what stands left of bit k is below, and is the same.
use Prim.Native.Nat.{◌/◌, ◌^◌}
use lib.Dec.{ltb, eqb}
use Rattle.planes.specs.Word.{Told, number_in}
use Rattle.planes.proofs.operand.order.Given as goal

abbrev pub invariant-loop-k : goal.invariant-loop-k
invariant-loop-k l =
    Told l.planes (λ v. ltb (number_in l.x v / 2 ^ l.k) (number_in l.y v / 2 ^ l.k)) l.below × Told l.planes (λ v. eqb (number_in l.x v / 2 ^ l.k) (number_in l.y v / 2 ^ l.k)) l.same
