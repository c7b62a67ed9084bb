-- `bits::window` meets its contract: four times, a byte more makes the number 256 times as much, and the byte.
use mathlib.Core.Path.{◌≡◌, ap, ◌∙◌}
use mathlib.Core.List.{List}
use Prim.Native.Nat.{ℕ, ◌+◌, ◌*◌, ◌<◌}
use native.Mathlib.Omega.{arith}
use lib.ListN.{get_or}
use Rattle.std.specs.Prelude.{Option}
use Rattle.std.specs.Option.{unwrap_or}
use Rattle.bits.specs.Field.{number_at}
use Rattle.bits.proofs.Laws.{number-none, number-byte}
use Rattle.bits.proofs.window.Goals as goal

-- the number of the four bytes from byte k on
four : (s : List ℕ) (k : ℕ) → ((i : ℕ) → get_or s i 0 < 256)
    → number_at s (8 * k) 32 ≡ ((get_or s k 0 * 256 + get_or s (k + 1) 0) * 256 + get_or s (k + 2) 0) * 256 + get_or s (k + 3) 0
four s k h =
    omega (
      arith,
      number-none s (8 * k),
      number-byte s (8 * k) 0 k (omega arith) (h k),
      number-byte s (8 * k) 8 (k + 1) (omega arith) (h (k + 1)),
      number-byte s (8 * k) 16 (k + 2) (omega arith) (h (k + 2)),
      number-byte s (8 * k) 24 (k + 3) (omega arith) (h (k + 3)),
    )

pub returns : goal.returns
returns c =
    let s = c.args.s.now in
    let k = c.args.k in
    let zero_past : Option ℕ → ℕ = λ o. unwrap_or o 0 in
    let first = c.unwrap_or-a.ensures ∙ ap zero_past c.copied.ensures ∙ c.get.ensures.lookup.4 (omega arith) 0 in
    let second = c.unwrap_or-b.ensures ∙ ap zero_past c.copied-2.ensures ∙ c.get-2.ensures.lookup.4 (omega arith) 0 in
    let third = c.unwrap_or-c.ensures ∙ ap zero_past c.copied-3.ensures ∙ c.get-3.ensures.lookup.4 (omega arith) 0 in
    let fourth = c.unwrap_or-d.ensures ∙ ap zero_past c.copied-4.ensures ∙ c.get-4.ensures.lookup.4 (omega arith) 0 in
    omega (arith, first, second, third, fourth, four s k (λ i. (c.type_inv.s i).fits))

pub returns-then-k-s : goal.returns-then-k-s
returns-then-k-s c = omega (arith, four c.args.s.now c.args.k (λ i. (c.type_inv.s i).fits))
