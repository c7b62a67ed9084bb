-- `reader_head::lists::read_attrs` meets its contract: each attribute that is read is one more row, and the last is followed by none.
use mathlib.Core.Path.{◌≡◌, refl, sym, ap, ◌∙◌}
use mathlib.Core.List.{List}
use Prim.Native.Nat.{ℕ}
use native.Mathlib.Omega.{arith}
use borrow.Author.Rules.{rules}
use lib.ListN.{set}
use Rattle.format.proofs.Chain.{refused}
use Rattle.policy.specs.File.{sizes_after}
use Rattle.policy.specs.Rules.{as_attr, attrs_of}
use Rattle.policy.specs.declared.Class.{Class}
use Rattle.policy.proofs.Laws.{cut, attrs-none, attrs-more, sizes-none, sizes-more}
use Rattle.reader_head.proofs.Reached.{reached-none, reached-more, reached-stops, reached-all}
use Rattle.reader_head.proofs.lists.read_attrs.Invariants.{row}
use Rattle.reader_head.proofs.lists.read_attrs.Goals as goal

pub loop-i-init : goal.loop-i-init
loop-i-init c =
    let a = c.args in
    let none = attrs-none _ refl in record {
      size = refl;
      near = omega arith;
      known = sym (ap (sizes_after a.known.now) none ∙ sizes-none a.known.now);
      reached = reached-none (row a.known.now) a.n a.reader.now _ none;
    }

pub loop-i-preserved : goal.loop-i-preserved
loop-i-preserved c =
    let l = c.loop-i in
    let a = c.args in
    let r = c.in_ok-attribute.attribute in
    let k : Class = record { count = l.i; attributes = l.attributes } in
    let more = attrs-more k l.i r (omega arith) in
    let one = rw l.invariant.known at c.in_ok-attribute.ensures.reads in record {
      size = search rules;
      near = omega arith;
      known = c.set_size.ensures ∙ ap (λ (m : List ℕ). set m r.list r.size) l.invariant.known ∙ sym (sizes-more a.known.now (attrs_of k) (as_attr r)) ∙ ap (sizes_after a.known.now) (sym more);
      reached = reached-more (row a.known.now) a.n a.reader.now l.reader _ _ l.i _ _ (omega arith) l.invariant.reached _ _ one more;
    }

pub returns-in_err-attribute-clause-reads : goal.returns-in_err-attribute-clause-reads
returns-in_err-attribute-clause-reads c =
    let l = c.loop-i in
    let a = c.args in
    let one = rw l.invariant.known at c.in_err-attribute.ensures.reads in
    refused _ c.from_residual.result c.from_residual.ensures.1 (reached-stops (row a.known.now) a.n a.reader.now l.reader _ _ l.i _ _ (omega arith) l.invariant.reached 96 one (omega arith)) (omega arith)

pub returns-clause-reads : goal.returns-clause-reads
returns-clause-reads c =
    let l = c.loop-i in
    let a = c.args in
    let k : Class = record { count = l.i; attributes = l.attributes } in
    let all : attrs_of (cut k a.n) ≡ attrs_of k = ap (λ (m : ℕ). attrs_of (cut k m)) (let z : a.n ≡ l.i = omega arith in z) in
    reached-all (row a.known.now) a.n a.reader.now l.reader _ l.i _ _ (omega arith) l.invariant.reached all (omega arith)
