-- `formulas::holds` meets its contract. The loop's invariant: the answers of the first i nodes stand in the array, and last is the
-- newest of them.
use mathlib.Core.Path.{◌≡◌, sym, ap, ◌∙◌}
use native.Mathlib.Omega.{arith}
use Rattle.policy.specs.Rules.{nodes_of, lists_of}
use Rattle.policy.proofs.Laws.{nodes-length}
use Rattle.formulas.specs.Meaning.{node_says}
use Rattle.formulas.proofs.Laws.{says_plain, said-start, said-next, said_all, nodes-at}
use borrow.Author.Rules.{rules}
use Rattle.formulas.proofs.holds.Goals as goal

pub loop-i-init : goal.loop-i-init
loop-i-init c = let a = c.args in (search rules, search rules, search rules, said-start (lists_of a.classes) a.holders _)

pub loop-i-preserved : goal.loop-i-preserved
loop-i-preserved c =
    let a = c.args in
    let t = c.loop-i in
    let x = c.at-node.result in
    let l = lists_of a.classes in
    let (h, e) = c.in-Some.ensures in (
      search rules,
      search rules,
      search rules,
      said-next l a.holders (nodes_of a.nodes.now a.f a.n) t.i t.before t.last c.in-Some.says t.invariant.3 (omega arith)
          (e ∙ says_plain l a.holders t.before x h
          ∙ ap (node_says l a.holders t.before) (c.at-node.ensures ∙ sym (nodes-at a.nodes.now a.f a.n t.i (omega arith)))),
    )

pub returns : goal.returns
returns c =
    let a = c.args in
    let t = c.loop-i in
    let e : a.n ≡ t.i = omega arith in
    said_all (lists_of a.classes) a.holders (nodes_of a.nodes.now a.f a.n) t.i t.before t.last t.invariant.3 (nodes-length a.nodes.now a.f a.n ∙ e)
