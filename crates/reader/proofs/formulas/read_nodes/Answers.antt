-- `reader::formulas::read_nodes` meets its contract: each node that is read is one more row.
use mathlib.Core.Path.{◌≡◌, refl, sym, subst}
use Prim.Native.Nat.{ℕ}
use native.Mathlib.Omega.{arith}
use native.Mathlib.Numerals.{add-one}
use lib.ListN.{length, length-take, take}
use lib.Seq.{take-suc-set, take_all}
use Rattle.format.specs.Reads.{Reads}
use Rattle.format.proofs.Chain.{refused}
use Rattle.std.specs.Prelude.{Ok, Err}
use Rattle.policy.specs.File.{node_format}
use Rattle.policy.specs.Rules.{lists_of}
use Rattle.reader_head.proofs.Reached.{reached-none, reached-more, reached-stops, reached-all}
use Rattle.reader.proofs.formulas.read_nodes.Invariants.{row}
use Rattle.reader.proofs.formulas.read_nodes.Goals as goal

pub loop-i-init : goal.loop-i-init
loop-i-init c = let a = c.args in record { near = omega arith; reached = reached-none (row a.classes a.f) (length a.nodes.now) a.reader.now _ refl }

pub returns-in_err-node : goal.returns-in_err-node
returns-in_err-node c =
    let a = c.args in
    let l = c.loop-i in
    let i : l.i ≡ length (take l.i l.nodes) = simp length-take (omega arith) in
    let one = subst (λ (k : ℕ). Reads (node_format (lists_of a.classes) a.f k) 20 (λ x. x) l.reader c.read_node.new.reader (Err c.in_err-node.field-0.0)) i c.in_err-node.ensures.reads in
    record {
      reads = refused _ c.from_residual.result c.from_residual.ensures.1
          (reached-stops (row a.classes a.f) (length a.nodes.now) a.reader.now l.reader _ _ l.i _ _ (omega arith) l.invariant.reached 1280 one (omega arith)) (omega arith);
    }

pub loop-i-preserved : goal.loop-i-preserved
loop-i-preserved c =
    let a = c.args in
    let l = c.loop-i in
    let x = c.in_ok-node.field-0 in
    let i : l.i ≡ length (take l.i l.nodes) = simp length-take (omega arith) in
    let one = subst (λ (k : ℕ). Reads (node_format (lists_of a.classes) a.f k) 20 (λ x. x) l.reader c.read_node.new.reader (Ok x)) i c.in_ok-node.ensures.reads in
    record { near = omega arith; reached = reached-more (row a.classes a.f) (length a.nodes.now) a.reader.now l.reader _ _ l.i _ _ (omega arith) l.invariant.reached _ _ one (rw add-one (take-suc-set l.nodes l.i x (omega arith))) }

pub returns : goal.returns
returns c =
    let a = c.args in
    let l = c.loop-i in
    record { reads = reached-all (row a.classes a.f) (length a.nodes.now) a.reader.now l.reader _ l.i _ _ (omega arith) l.invariant.reached (sym (take_all l.i l.nodes (omega arith))) (omega arith) }
