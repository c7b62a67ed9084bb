-- `policy::fewest_bits` meets its contract: the fewest bits for n values are those that n - 1 has, since n is above 2 ^ w exactly where n - 1 has more than w
-- bits. Assumes nothing.
use mathlib.Core.Path.{◌≡◌}
use Prim.Native.Nat.{ℕ, ◌+◌, ◌-◌, ◌*◌, ◌^◌, ◌≤◌, ◌<◌, zero, suc}
use native.Mathlib.Omega.{arith}
use Rattle.std.specs.Int.Count.{count_leading_zeros}
use Rattle.std.proofs.lemmas.Nat.{leading_length}
use Rattle.policy.specs.Policy.{fewest_bits}
use Rattle.policy.proofs.Laws.{fewest-least, fewest-over}
use Rattle.policy.proofs.shape.fewest_bits.Goals as goal

bits : (n a : ℕ) → a ≡ n - 1 → n < 256 → 8 - count_leading_zeros 8 a ≡ fewest_bits n
bits n a e h = let r = leading_length 8 a (omega arith) in go r.0 r.1 r.2 r.3
  where
    go : (m : ℕ) → count_leading_zeros 8 a + m ≡ 8 → a < 2 ^ m → 2 ^ m ≤ 2 * a + 1 → 8 - count_leading_zeros 8 a ≡ fewest_bits n
    go zero s l u = omega (arith, fewest-least n zero (omega arith))
    go (suc m) s l u = omega (arith, fewest-least n (suc m) (omega arith), fewest-over n m (omega arith))

pub returns : goal.returns
returns c = bits c.args.n c.saturating_sub.result c.saturating_sub.ensures (omega arith)
