-- `planes::comparison::compare` meets its contract: an arm for each comparison.
use mathlib.Core.Path.{sym, ap}
use borrow.Author.Rules.{rules}
use Rattle.planes.specs.SetComparison.{operator}
use Rattle.planes.proofs.Words.{told-as}
use Rattle.planes.proofs.Turns.{told_and, told-not}
use Rattle.planes.proofs.Comparisons.{compared-member, compared-subset, compared-proper}
use Rattle.planes.proofs.comparison.compare.Goals as goal

pub returns-in-Member : goal.returns-in-Member
unfolding operator
returns-in-Member c = let a = c.args in told-as a.planes.now _ _ _ c.member.ensures (λ v. sym (compared-member (operator a.by) a.x a.y v (ap operator c.in-Member.is)))

pub returns-in-Subset : goal.returns-in-Subset
unfolding operator
returns-in-Subset c = let a = c.args in told-as a.planes.now _ _ _ c.subset.ensures (λ v. sym (compared-subset (operator a.by) a.x a.y v (ap operator c.in-Subset.is)))

pub returns-in-ProperSubset : goal.returns-in-ProperSubset
unfolding operator
returns-in-ProperSubset c =
    let a = c.args in
    told-as a.planes.now _ _ _ (told_and a.planes.now _ _ _ _ c.subset-in-ProperSubset.ensures (told-not a.planes.now _ _ (search rules) c.subset-in-ProperSubset-2.ensures))
    (λ v. sym (compared-proper (operator a.by) a.x a.y v (ap operator c.in-ProperSubset.is)))
