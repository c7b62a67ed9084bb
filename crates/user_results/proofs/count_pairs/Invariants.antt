-- `count_pairs` meets its contract. The loop's invariant: the pairs of those searches that it has gone over are counted.
use Rattle.std.proofs.Common.{◌≡◌, ◌*◌, ◌≤◌}
use Rattle.user_results.specs.Found.{found_pairs}
use Rattle.user_results.proofs.count_pairs.Given as goal

abbrev pub invariant-loop-q : goal.invariant-loop-q
invariant-loop-q l = (l.n ≡ found_pairs l.users l.q-index) × (l.n ≤ 256 * l.q-index)
