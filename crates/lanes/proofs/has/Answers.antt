-- `lanes::has` meets its contract: below 256 a lane is its bit, and from there on none is set.
use mathlib.Core.Path.{◌≡◌, refl, sym, ◌∙◌}
use borrow.Author.Tests.{le-ltb}
use lib.ListN.{length}
use Rattle.lanes.specs.Lanes.{bit_of, lane_of}
use Rattle.lanes.proofs.Words.{lane_past}
use borrow.Author.Rules.{rules}
use Rattle.lanes.proofs.has.Goals as goal

pub returns-then-v-lt256 : goal.returns-then-v-lt256
unfolding lane_of bit_of
returns-then-v-lt256 c = refl

pub returns-else-v-lt256 : goal.returns-else-v-lt256
returns-else-v-lt256 c = let a = c.args in let l : length a.x ≡ 4 = search rules in le-ltb a.v 256 c.if-v-lt256.false ∙ sym (lane_past a.x a.v l c.if-v-lt256.false)
