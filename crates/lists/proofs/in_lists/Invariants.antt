-- `lists::in_lists` meets its contract. The loop's invariant: v is in the lists when what is left of it is in those of the attributes from k on, and left is
-- the width of these.
use mathlib.Core.Path.{◌≡◌}
use lib.ListN.{drop}
use Rattle.policy.specs.Policy.{width}
use Rattle.policy.specs.Rules.{attrs_of}
use Rattle.lists.specs.Lists.{in_lists}
use Rattle.lists.proofs.in_lists.Given as goal

abbrev pub invariant-loop-k : goal.invariant-loop-k
invariant-loop-k l = record {
  width_left : l.left ≡ width (drop l.k (attrs_of l.class));
  value_left : in_lists (attrs_of l.class) l.v ≡ in_lists (drop l.k (attrs_of l.class)) l.rest;
}
