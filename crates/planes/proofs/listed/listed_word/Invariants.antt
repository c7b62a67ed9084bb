-- `planes::listed::listed_word` meets its contract. The loop's invariant: what the attributes from k on take of the number is in their lists, and
-- right is their width.
use mathlib.Core.Path.{◌≡◌}
use Prim.Native.Nat.{◌*◌, ◌-◌, ◌%◌, ◌^◌, ◌≤◌}
use lib.ListN.{drop}
use Rattle.policy.specs.Policy.{width}
use Rattle.policy.specs.Rules.{attrs_of}
use Rattle.lists.specs.Lists.{in_lists}
use Rattle.planes.specs.Word.{Told}
use Rattle.planes.proofs.listed.listed_word.Given as goal

abbrev pub invariant-loop-k : goal.invariant-loop-k
invariant-loop-k here =
    let l = attrs_of here.class in
    (here.right ≤ 255 * (here.initial.k - here.k)) × (here.right ≡ width (drop here.k l)) × Told here.planes (λ v. in_lists (drop here.k l) (v % 2 ^ here.right)) here.r
