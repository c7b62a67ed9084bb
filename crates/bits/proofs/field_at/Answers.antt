-- `bits::field_at` meets its contract: a field of at most 24 bits lies within the four bytes from the one it begins in.
use mathlib.Core.Path.{sym}
use native.Mathlib.Omega.{arith}
use Rattle.bits.proofs.Laws.{field_cut, field-value, field-short}
use Rattle.bits.proofs.field_at.Goals as goal

pub returns-then-s-k : goal.returns-then-s-k
returns-then-s-k c = let a = c.args in sym (field-short a.s.now a.pos a.w (omega arith))

pub returns : goal.returns
returns c =
    let a = c.args in
    simp (c.low_bits.ensures, c.window.ensures, field_cut a.s.now a.pos a.w (omega arith)) (sym (field-value a.s.now a.pos a.w (omega arith)))
