-- `dependence::depends` meets its contract. The loop's invariant: d is right for the first k nodes and keeps its length. The measure is what is left
-- of the count.
use mathlib.Core.Path.{◌≡◌, ap, ◌∙◌, subst}
use mathlib.Core.Bool.{false}
use Prim.Native.Nat.{ℕ, ◌+◌, ◌*◌}
use native.Mathlib.Omega.{arith}
use lib.ListN.{get_or, length-set}
use Rattle.dependence.specs.Depends.{depends_at, Depends}
use Rattle.dependence.proofs.Depending.{depends-more}
use borrow.Author.Rules.{rules}
use Rattle.dependence.proofs.depends.Goals as goal

pub loop-k-init : goal.loop-k-init
loop-k-init c = (search rules, search rules, record { each = λ k l. absurd (omega arith) })

pub loop-k-preserved : goal.loop-k-preserved
loop-k-preserved c =
    let l = c.loop-k in
    let a = c.args in
    let x = c.depends_at-x.result in (
      search rules,
      length-set l.d l.k x ∙ l.invariant.1,
      depends-more (λ i. get_or a.nodes.now (64 * a.f + i) 0) a.h l.k l.d l.invariant.2 x (omega arith)
          (c.depends_at-x.ensures ∙ ap (λ (y : ℕ). depends_at (λ j. get_or l.d j false) y l.k a.h) c.at.ensures),
    )

pub returns : goal.returns
returns c =
    let l = c.loop-k in
    let a = c.args in
    let e : l.k ≡ a.n = omega arith in record { depends = subst (λ (k : ℕ). Depends (λ i. get_or a.nodes.now (64 * a.f + i) 0) a.h k l.d) e l.invariant.2; d_len_unchanged = l.invariant.1 }
