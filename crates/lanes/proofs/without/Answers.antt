-- `lanes::without` meets its contract: below 256 one bit of one word is cleared, and from there on nothing changes.
use mathlib.Core.Path.{◌≡◌}
use lib.ListN.{length}
use Rattle.lanes.proofs.Words.{lanes-without}
use borrow.Author.Rules.{rules}
use Rattle.lanes.proofs.without.Goals as goal

pub returns-then-v-lt256 : goal.returns-then-v-lt256
returns-then-v-lt256 c =
    let a = c.args in
    let l : length a.x ≡ 4 = search rules in
    lanes-without a.x a.v l c.if-v-lt256.true
