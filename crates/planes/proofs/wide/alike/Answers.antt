-- `planes::wide::alike` meets its contract: the field is no bits, or bits that are the same in every word.
use Prim.Native.Nat.{◌+◌}
use borrow.Author.Tests.{leb-true}
use Rattle.planes.proofs.Numbers.{number-alike, plain-alike}
use Rattle.planes.proofs.wide.alike.Goals as goal

pub returns-then-o-eq0 : goal.returns-then-o-eq0
returns-then-o-eq0 c e w j h = plain-alike c.args.o c.if-o-eq0.true w j

pub returns-else-o-eq0 : goal.returns-else-o-eq0
returns-else-o-eq0 c e w j h = let o = c.args.o in number-alike o (leb-true (o.shift + o.bits) 6 e) w j
