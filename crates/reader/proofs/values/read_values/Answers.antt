-- `reader::values::read_values` meets its contract: each value that is read is one more row.
use mathlib.Core.Path.{◌≡◌}
use mathlib.Core.List.{List, ◌++◌}
use Prim.Native.Nat.{ℕ, ◌≤◌}
use native.Mathlib.Omega.{arith}
use borrow.Author.Rules.{rules}
use lib.ListN.{length, length-take, get_or-append}
use Rattle.bits.proofs.Packed.{tab-ext}
use Rattle.format.proofs.Chain.{refused}
use Rattle.policy.specs.Rules.{values_of}
use Rattle.policy.proofs.Laws.{values-none, values-more}
use Rattle.reader_head.proofs.Reached.{reached-none, reached-more, reached-stops, reached-all}
use Rattle.reader.proofs.values.read_values.Invariants.{row}
use Rattle.reader.proofs.values.read_values.Goals as goal

-- the values that count are in front
values-front : (front back : List ℕ) (m n : ℕ) → m ≡ n → n ≤ length front → values_of record { count = m; values = front ++ back } ≡ values_of record { count = n; values = front }
unfolding values_of
values-front front back m n e h = rw e (tab-ext _ _ 0 n (λ k l. get_or-append front back 0 k (omega arith)))

pub loop-value-init : goal.loop-value-init
loop-value-init c = let a = c.args in record { items = simp length-take (omega arith); near = omega arith; reached = reached-none (row a.class) a.n a.reader.now _ (values-none _) }

pub returns-in_err-value-clause-reads : goal.returns-in_err-value-clause-reads
returns-in_err-value-clause-reads c =
    let l = c.loop-value in
    let a = c.args in
    refused _ c.from_residual.result c.from_residual.ensures.1
    (reached-stops (row a.class) a.n a.reader.now l.reader _ _ l.value-index _ _ (omega arith) l.invariant.reached 256 c.in_err-value.ensures.reads (omega arith)) (omega arith)

pub loop-value-preserved : goal.loop-value-preserved
loop-value-preserved c =
    let l = c.loop-value in
    let a = c.args in record {
      items = search rules;
      near = omega arith;
      reached = reached-more (row a.class) a.n a.reader.now l.reader _ _ l.value-index _ _ (omega arith) l.invariant.reached _ _ c.in_ok-value.ensures.reads
          (values-more l.value-items l.value-index _ (omega arith));
    }

pub returns-clause-reads : goal.returns-clause-reads
returns-clause-reads c =
    let l = c.loop-value in
    let a = c.args in
    reached-all (row a.class) a.n a.reader.now l.reader _ l.value-index _ _ (omega arith) l.invariant.reached (values-front _ _ a.n l.value-index (omega arith) (omega arith)) (omega arith)
