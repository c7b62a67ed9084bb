-- `leaves::values::bit_row` meets its contract: no lane's number has more than eight bits.
use mathlib.Core.Path.{refl}
use native.Mathlib.Omega.{arith}
use borrow.Author.Rules.{rules}
use Rattle.lanes.proofs.Laws.{lanes-as}
use Rattle.leaves.proofs.Parts.{bits_are, bits-past}
use Rattle.leaves.proofs.values.bit_row.Goals as goal

pub returns-in-0 : goal.returns-in-0
returns-in-0 c = bits_are c.args.k 0 c.in-0.is refl (omega arith)

pub returns-in-1 : goal.returns-in-1
returns-in-1 c = bits_are c.args.k 1 c.in-1.is refl (omega arith)

pub returns-in-2 : goal.returns-in-2
returns-in-2 c = bits_are c.args.k 2 c.in-2.is refl (omega arith)

pub returns-in-3 : goal.returns-in-3
returns-in-3 c = bits_are c.args.k 3 c.in-3.is refl (omega arith)

pub returns-in-4 : goal.returns-in-4
returns-in-4 c = bits_are c.args.k 4 c.in-4.is refl (omega arith)

pub returns-in-5 : goal.returns-in-5
returns-in-5 c = bits_are c.args.k 5 c.in-5.is refl (omega arith)

pub returns-in-6 : goal.returns-in-6
returns-in-6 c = bits_are c.args.k 6 c.in-6.is refl (omega arith)

pub returns-in-7 : goal.returns-in-7
returns-in-7 c = bits_are c.args.k 7 c.in-7.is refl (omega arith)

pub returns-in_default : goal.returns-in_default
returns-in_default c = lanes-as _ _ _ c.none.ensures (λ v h. bits-past c.args.k v (search rules) h)
