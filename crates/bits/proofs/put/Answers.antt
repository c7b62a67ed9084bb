-- `bits::put` meets its contract. The loop's invariant: all but the bits that are left are stored, byte i is the next with so many bits free, v is what stays of
-- it, and the length is kept. The measure is the bits that are left.
use mathlib.Core.Path.{◌≡◌, refl, sym, ap, ◌∙◌}
use Prim.Native.Nat.{◌+◌, ◌-◌, ◌*◌, ◌%◌, ◌^◌}
use native.Mathlib.Omega.{arith}
use lib.ListN.{set, length-set}
use Rattle.bits.specs.Packed.{put_to}
use Rattle.bits.proofs.Stored.{put_to-none, put-room, put_full, kept_at, next-first, next_more, next-kept, fill, rest}
use Rattle.bits.proofs.put.Goals as goal

pub returns-then-out-k : goal.returns-then-out-k
returns-then-out-k c =
    let a = c.args in
    sym (put_full a.out.now a.pos a.w a.x (omega arith))

pub loop-free-init : goal.loop-free-init
loop-free-init c =
    let a = c.args in
    let none : 0 ≡ a.w - a.w = omega arith in
    let first : a.pos ≡ a.pos + (a.w - a.w) = omega arith in (
      next-first a.pos a.w,
      c.kept-v.ensures ∙ ap (kept_at a.out.now) first,
      refl,
      sym (put_to-none a.out.now a.pos a.w a.x) ∙ ap (put_to a.out.now a.pos a.w a.x) none,
    )

pub loop-free-preserved : goal.loop-free-preserved
loop-free-preserved c =
    let a = c.args in
    let l = c.loop-free in
    let y = c.low_bits-y in
    let t = c.loop-free-test.true in (
      next_more l.invariant.0 t,
      sym (next-kept l.invariant.0 t (set l.out l.i c.low_byte.result)),
      length-set l.out _ _ ∙ l.invariant.2,
      simp (c.low_byte.ensures, c.high_bits.ensures, y.ensures, l.invariant.1, l.invariant.3) (fill a.out.now a.x (omega arith) l.invariant.0 t),
    )

pub returns-then-left-gt0 : goal.returns-then-left-gt0
returns-then-left-gt0 c =
    let a = c.args in
    let l = c.loop-free in
    let y = c.low_bits-y in
    let byte : c.low_byte-then-left-gt0.result ≡ (l.v + y.result * 2 ^ (l.free - l.left)) % 256 = omega arith in
    simp (byte, y.ensures, l.invariant.1, l.invariant.3) (rest a.out.now a.x (omega arith) l.invariant.0 c.if-left-gt0.true (omega arith))
    ∙ sym (put-room a.out.now a.pos a.w a.x (omega arith))

pub returns-else-left-gt0 : goal.returns-else-left-gt0
returns-else-left-gt0 c =
    let a = c.args in
    let e : a.w - c.loop-free.left ≡ a.w = omega arith in
    c.loop-free.invariant.3 ∙ ap (put_to a.out.now a.pos a.w a.x) e ∙ sym (put-room a.out.now a.pos a.w a.x (omega arith))
