-- `bits::put` meets its contract. The loop's invariant: all but the bits that are left are stored, byte i is the next with so many bits free, v is what stays of
-- it, and the length is kept. The measure is the bits that are left.
use mathlib.Core.Path.{◌≡◌}
use Prim.Native.Nat.{◌+◌, ◌-◌}
use lib.ListN.{length}
use Rattle.bits.specs.Packed.{put_to}
use Rattle.bits.proofs.Stored.{kept_at, Next}
use Rattle.bits.proofs.put.Given as goal

abbrev pub invariant-loop-free : goal.invariant-loop-free
invariant-loop-free l =
    Next l.pos l.n l.i l.free l.left × (l.v ≡ kept_at l.out (l.pos + (l.n - l.left))) × (length l.out ≡ length l.initial.out) × (l.out ≡ put_to l.initial.out l.pos l.w l.x (l.n - l.left))

abbrev pub decreases-loop-free : goal.decreases-loop-free
decreases-loop-free l = l.left
