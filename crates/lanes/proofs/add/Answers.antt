-- `lanes::add` meets its contract: below 256 one bit of one word is set, and from there on nothing changes.
use mathlib.Core.Path.{◌≡◌, sym}
use lib.ListN.{length}
use Rattle.lanes.proofs.Words.{lanes-add, lanes-add-past, added-in, added-past}
use borrow.Author.Rules.{rules}
use Rattle.lanes.proofs.add.Goals as goal

pub returns-then-v-lt256 : goal.returns-then-v-lt256
returns-then-v-lt256 c =
    let a = c.args in
    let l : length a.x ≡ 4 = search rules in record { lanes = lanes-add a.x a.v l c.if-v-lt256.true; value = sym (added-in a.x a.v c.if-v-lt256.true) }

pub returns-else-v-lt256 : goal.returns-else-v-lt256
returns-else-v-lt256 c =
    let a = c.args in
    let l : length a.x ≡ 4 = search rules in record { lanes = lanes-add-past a.x a.v l c.if-v-lt256.false; value = sym (added-past a.x a.v c.if-v-lt256.false) }
