-- `planes::operand::bit` meets its contract: a bit of the field is one of the lane's number, any other is the same in all lanes.
use mathlib.Core.Path.{sym, ◌∙◌}
use native.Mathlib.Omega.{arith}
use Rattle.planes.proofs.Numbers.{bit-out, number-low, number_bit}
use Rattle.planes.proofs.Words.{told-as, told_none, told-whole, told-plane}
use Rattle.lanes.specs.Lanes.{bit_of}
use Rattle.planes.proofs.operand.bit.Goals as goal

pub returns-then-k-o : goal.returns-then-k-o
returns-then-k-o c =
    let a = c.args in
    let t = a.planes.now in
    told-as t _ _ _ (told-plane t _ _ c.get_or.ensures) (λ v. sym (number-low a.o v a.k c.if-k-o.true))

pub returns-then-k-lt8 : goal.returns-then-k-lt8
unfolding bit_of
returns-then-k-lt8 c =
    let a = c.args in
    let t = a.planes.now in
    told-as t _ _ _ (told-whole t _ _ c.whole.ensures) (λ v. sym (number_bit a.o v a.k c.if-k-o.false))

pub returns-else-k-lt8 : goal.returns-else-k-lt8
returns-else-k-lt8 c =
    let a = c.args in
    let t = a.planes.now in
    told-as t _ _ _ (told_none t) (λ v. sym (number_bit a.o v a.k c.if-k-o.false ∙ bit-out a.o.number 8 a.k (omega arith) c.if-k-lt8.false))
