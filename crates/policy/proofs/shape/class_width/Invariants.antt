-- `policy::class_width` meets its contract. The loop's invariant: w is the width of the first k attributes, and at most 255 for each.
-- Assumes nothing.
use mathlib.Core.Path.{◌≡◌}
use Prim.Native.Nat.{◌*◌, ◌≤◌}
use Rattle.policy.specs.Policy.{width}
use Rattle.policy.specs.Rules.{attrs_of}
use Rattle.policy.proofs.Laws.{cut}
use Rattle.policy.proofs.shape.class_width.Given as goal

abbrev pub invariant-loop-k : goal.invariant-loop-k
invariant-loop-k l = record {
  first : l.w ≡ width (attrs_of (cut l.class l.k));
  bound : l.w ≤ 255 * l.k;
}
