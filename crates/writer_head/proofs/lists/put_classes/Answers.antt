-- `writer_head::lists::put_classes` meets its contract: the three classes, one after another, the sizes of the lists going along.
use Rattle.format.proofs.Store.{stores-pair, stores-first, stores-via, stores-given}
use Rattle.policy.specs.File.{no_sizes, lists_format}
use Rattle.policy.specs.Rules.{lists_of}
use Rattle.writer_head.specs.Parts.{head_for}
use Rattle.writer_head.proofs.lists.put_classes.Goals as goal

pub returns-in_err-at-clause-stores : goal.returns-in_err-at-clause-stores
unfolding no_sizes lists_format lists_of head_for
returns-in_err-at-clause-stores c = stores-given c.from_residual.ensures.1 (stores-via _ _ _ (lists_of c.args.classes) (stores-first _ _ c.in_err-at.ensures.stores))

pub returns-in_err-at-2-clause-stores : goal.returns-in_err-at-2-clause-stores
unfolding no_sizes lists_format lists_of head_for
returns-in_err-at-2-clause-stores c =
    let second = rw c.in_ok-at.ensures.known_after at c.in_err-at-2.ensures.stores in
    stores-given c.from_residual-in_err-at-2.ensures.1
    (stores-via _ _ _ (lists_of c.args.classes) (stores-pair _ _ c.in_ok-at.ensures.stores (stores-first _ _ second)))

pub returns-clause-stores : goal.returns-clause-stores
unfolding no_sizes lists_format lists_of head_for
returns-clause-stores c =
    let second = rw c.in_ok-at.ensures.known_after at c.in_ok-at-2.ensures.stores in
    let third = rw (c.in_ok-at-2.ensures.known_after, c.in_ok-at.ensures.known_after) at c.put_class-3.ensures.stores in
    stores-via _ _ _ (lists_of c.args.classes) (stores-pair _ _ c.in_ok-at.ensures.stores (stores-pair _ _ second third))
