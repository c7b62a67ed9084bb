-- `bitsets::store` meets its contract: the four words of row k are those of x, and all other words are as before.
use mathlib.Core.Logic.{⊎_elim}
use borrow.Author.Rules.{rules}
use Rattle.std.proofs.lemmas.List.{places}
use Rattle.bitsets.proofs.Words.{rows-stored}
use Rattle.bitsets.proofs.store.Goals as goal

pub returns-clause-rows : goal.returns-clause-rows
returns-clause-rows c =
    let a = c.args in
    rows-stored a.area.now _ a.x a.k (λ q h. search (rules, places)) (λ p. ⊎_elim (λ h. search (rules, places)) (λ h. search (rules, places)))
