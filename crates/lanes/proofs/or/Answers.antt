-- `lanes::or` meets its contract, word by word.
use mathlib.Core.Bool.{◌||◌}
use lib.Bits.{bit_or}
use borrow.Author.Rules.{rules}
use Rattle.lanes.proofs.Bits.{bit-or}
use Rattle.lanes.proofs.Words.{word-op}
use Rattle.lanes.proofs.or.Goals as goal

pub returns : goal.returns
returns c = let w = c.by_words in word-op ◌||◌ bit_or (λ a b k p q h. bit-or a b k) _ _ w.result (search rules) (λ q h. let e = w.ensures.words q h in search rules) w.ensures.below
