-- `bitsets::load` meets its contract: each of the four words has the bits of the row in its place.
use mathlib.Core.Path.{ap, ◌∙◌}
use Prim.Native.Nat.{ℕ}
use native.Mathlib.Omega.{arith}
use lib.ListN.{get_or}
use Rattle.lanes.specs.Lanes.{bit_of}
use Rattle.lanes.proofs.Words.{lanes-by}
use Rattle.bitsets.specs.Rows.{bit_at}
use Rattle.bitsets.proofs.Words.{bit_is}
use Rattle.bitsets.proofs.load.Goals as goal

pub returns : goal.returns
returns c =
    let a = c.args in
    let t = a.area.now in
    lanes-by (bit_at t a.a) _ _ _ _
    (λ j h. ap (λ (k : ℕ). bit_of (get_or t k 0) j) (omega arith) ∙ bit_is t a.a 0 j h)
    (λ j h. bit_is t a.a 1 j h)
    (λ j h. bit_is t a.a 2 j h)
    (λ j h. bit_is t a.a 3 j h)
