-- `lanes::is_none` meets its contract: no lane is set where each word is 0.
use borrow.Author.Rules.{rules}
use Rattle.lanes.proofs.Words.{none-words}
use Rattle.lanes.proofs.is_none.Goals as goal

pub returns : goal.returns
returns c = none-words c.args.x c.all.result (λ t q h. search rules) (λ t. search rules)
