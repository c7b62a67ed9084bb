-- `planes::set::has` meets its contract: member i is a bit of the set, and a set has no member past its size.
use mathlib.Core.Path.{sym}
use native.Mathlib.Omega.{arith}
use Rattle.planes.specs.Word.{number_in}
use Rattle.planes.proofs.Words.{told-as, told_none}
use Rattle.planes.proofs.Turns.{has_in, no_member}
use Rattle.planes.proofs.set.has.Goals as goal

pub returns-then-i-n : goal.returns-then-i-n
returns-then-i-n c =
    let a = c.args in
    let n = c.size_of-n in
    has_in a.planes.now (number_in a.o) a.o.size a.i n.result _ (omega (arith, n.ensures)) n.ensures c.bit.ensures

pub returns-else-i-n : goal.returns-else-i-n
returns-else-i-n c =
    let a = c.args in
    told-as a.planes.now _ _ _ (told_none a.planes.now) (λ v. sym (no_member a.o.size (number_in a.o v) a.i (omega (arith, c.size_of-n.ensures))))
