-- `alike::field_mask` meets its contract: its bits stand from `from` on and below `to`.
use Prim.Native.Nat.{◌+◌}
use native.Mathlib.Omega.{arith}
use Rattle.alike.proofs.Masks.{bit_le, keeps-field}
use Rattle.alike.proofs.field_mask.Goals as goal

pub overflow_sub-result : goal.overflow_sub-result
overflow_sub-result c = bit_le c.byte_of-from.result (c.byte_of-from.result + c.byte_of.result) (omega arith) (omega arith)

pub returns : goal.returns
returns c = let a = c.args in keeps-field a.shift a.bits c.byte_of-from.result _ c.byte_of-from.ensures (omega arith)
