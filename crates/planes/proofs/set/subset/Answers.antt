-- `planes::set::subset` meets its contract. The loop's invariant: the first i members of x, where they are any, are members of y. The measure is
-- what is left of the size.
use mathlib.Core.Path.{◌≡◌, ap}
use mathlib.Core.Bool.{not, ◌||◌}
use native.Mathlib.Omega.{arith}
use Rattle.bits.specs.Set.{size_of, in_set, all_below, subset_of}
use Rattle.planes.specs.Word.{number_in}
use Rattle.planes.proofs.Words.{told-as, told-all}
use Rattle.planes.proofs.Turns.{subset-turn}
use borrow.Author.Rules.{rules}
use Rattle.planes.proofs.set.subset.Goals as goal

pub loop-i-init : goal.loop-i-init
unfolding all_below
loop-i-init c = (search rules, c.size_of-i-end.ensures, told-all _)

pub loop-i-preserved : goal.loop-i-preserved
loop-i-preserved c =
    let t = c.loop-i in
    let a = c.args in (
      search rules,
      t.invariant.1,
      subset-turn a.planes.now (λ v. in_set a.x.size (number_in a.x v)) (λ v. in_set a.y.size (number_in a.y v)) t.i t.r _ _ (search rules) t.invariant.2 c.has.ensures c.has-in-loop-i.ensures,
    )

pub returns : goal.returns
unfolding subset_of
returns c =
    let t = c.loop-i in
    let a = c.args in
    let e : t.i ≡ size_of a.x.size = omega (arith, t.invariant.1) in
    told-as a.planes.now _ _ _ t.invariant.2 (λ v. ap (all_below (λ i. not (in_set a.x.size (number_in a.x v) i) || in_set a.y.size (number_in a.y v) i)) e)
