-- `tables::Layout::fill_tables` meets its contract. The invariant: the tables of the first k nodes are right.
use mathlib.Core.Path.{◌≡◌}
use Prim.Native.Nat.{◌+◌, ◌*◌}
use lib.ListN.{length, get_or}
use Rattle.policy.specs.Rules.{lists_of}
use Rattle.tables.specs.Tables.{Tables}
use Rattle.tables.proofs.Layout.fill_tables.Given as goal

abbrev pub invariant-loop-k : goal.invariant-loop-k
invariant-loop-k l =
    let y = l.self in
    record {
      as_long : length l.area ≡ length l.initial.area;
      filled : Tables (lists_of y.classes) y.lane y.row y.outer l.marks.lane.now l.marks.row.now l.marks.outer.now (λ j. get_or l.nodes (64 * l.f + j) 0) y.room l.k l.initial.area l.area;
    }
