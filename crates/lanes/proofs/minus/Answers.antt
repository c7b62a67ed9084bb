-- `lanes::minus` meets its contract, word by word.
use mathlib.Core.Path.{◌∙◌, ap}
use mathlib.Core.Bool.{Bool, not, ◌&&◌}
use Prim.Native.Nat.{ℕ, ◌-◌}
use lib.Bits.{bit_and}
use borrow.Author.Rules.{rules}
use Rattle.lanes.specs.Lanes.{bit_of}
use Rattle.lanes.proofs.Bits.{bit-and, bit_not}
use Rattle.lanes.proofs.Words.{word-op}
use Rattle.lanes.proofs.minus.Goals as goal

pub returns : goal.returns
returns c =
    let w = c.by_words in
    word-op (λ (a b : Bool). a && not b) (λ (a b : ℕ). bit_and a (18446744073709551615 - b))
    (λ a b k p q h. bit-and a (18446744073709551615 - b) k ∙ ap (λ (z : Bool). bit_of a k && z) (bit_not b k q h)) _ _ w.result (search rules)
    (λ q h. let e = w.ensures.words q h in search rules) w.ensures.below
