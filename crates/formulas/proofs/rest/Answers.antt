-- `formulas::rest` meets its contract. The loop's invariant: whatever lists and values the two tables are of, if the answers of
-- the first nodes stood in the array where the loop began, those of the first i nodes stand in it now, and last is the newest of them.
--
use mathlib.Core.Path.{◌≡◌, sym, ap, ◌∙◌}
use native.Mathlib.Omega.{arith}
use Rattle.policy.specs.Rules.{nodes_of, lists_of}
use Rattle.policy.proofs.Laws.{nodes-length}
use Rattle.formulas.specs.Meaning.{node_says}
use Rattle.formulas.proofs.Laws.{says-over, said-next, said_all, nodes-at}
use borrow.Author.Rules.{rules}
use Rattle.formulas.proofs.rest.Goals as goal

pub loop-i-preserved : goal.loop-i-preserved
loop-i-preserved c =
    let t = c.loop-i in
    let a = c.args in (
      search rules,
      search rules,
      search rules,
      λ l v e d s.
          said-next l v (nodes_of a.nodes.now a.f a.n) t.i t.before t.last c.says-last.result (t.invariant.3 l v e d s) (omega arith)
          (c.says-last.ensures ∙ says-over l v _ _ t.before c.at.result e d
          ∙ ap (node_says l v t.before) (c.at.ensures ∙ sym (nodes-at a.nodes.now a.f a.n t.i (omega arith)))),
    )

pub returns : goal.returns
returns c =
    let t = c.loop-i in
    let f = c.fill_all.ensures in
    let a = c.args in
    let l = nodes_of a.nodes.now a.f a.n in
    let e : a.n ≡ t.i = omega arith in
    let m = lists_of a.classes in
    said_all m a.holders l t.i t.before t.last (t.invariant.3 m a.holders f.values_after f.sizes_after c.requires.1) (nodes-length a.nodes.now a.f a.n ∙ e)
