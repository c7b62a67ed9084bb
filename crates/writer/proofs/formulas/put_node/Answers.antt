-- `writer::formulas::put_node` meets its contract: the field, then the check on its lists, which is made only where the node may stand there.
use mathlib.Core.Path.{refl, sym, ◌∙◌}
use Rattle.format.proofs.Law.{judged-field}
use Rattle.format.proofs.Store.{no-fault, stores-check, check-fails, before_check, stores-given}
use Rattle.policy.specs.Nodes.{node_ok, lists_agree}
use Rattle.policy.specs.File.{node_format}
use Rattle.policy.specs.Rules.{lists_of}
use Rattle.refusal.specs.Number.{number_of}
use Rattle.refusal.specs.declared.Refusal.{Refusal}
use Rattle.writer.proofs.Node.{node-field, outcome-ok, outcome-err}
use Rattle.writer.proofs.formulas.put_node.Goals as goal

pub returns-in_err-next-clause-stores : goal.returns-in_err-next-clause-stores
unfolding node_format number_of
returns-in_err-next-clause-stores c =
    let a = c.args in
    let l = lists_of a.classes in
    stores-given c.from_residual.ensures.1 (before_check _ _ 19 (node-field (node_ok l a.f a.i) a.x (lists_agree l a.x) _ _ c.check_node-checked.ensures c.ne.ensures refl refl c.in_err-next.ensures.stores))

pub returns-in-Ok-clause-stores : goal.returns-in-Ok-clause-stores
unfolding node_format number_of
returns-in-Ok-clause-stores c =
    let a = c.args in
    let l = lists_of a.classes in
    let stored = node-field (node_ok l a.f a.i) a.x (lists_agree l a.x) _ _ c.check_node-checked.ensures c.ne.ensures refl refl c.in_ok-next.ensures.stores in
    let ok = (judged-field 20 (node_ok l a.f a.i) 8 a.x (no-fault stored)).1 in
    stores-check _ _ 19 stored (outcome-ok (lists_agree l a.x) _ (rw ok at (sym c.in-Ok.is ∙ c.check_node-checked.ensures)))

pub returns-in-Err-clause-stores : goal.returns-in-Err-clause-stores
unfolding node_format number_of
returns-in-Err-clause-stores c =
    let a = c.args in
    let l = lists_of a.classes in
    let stored = node-field (node_ok l a.f a.i) a.x (lists_agree l a.x) _ _ c.check_node-checked.ensures c.ne.ensures refl refl c.in_ok-next.ensures.stores in
    let ok = (judged-field 20 (node_ok l a.f a.i) 8 a.x (no-fault stored)).1 in
    let (differ, is) = outcome-err (lists_agree l a.x) _ (rw ok at (sym c.in-Err.is ∙ c.check_node-checked.ensures)) in
    rw is (check-fails _ _ Refusal.Lists stored differ)
