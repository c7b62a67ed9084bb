-- A law of judged steps.
use mathlib.Core.Path.{◌≡◌}
use mathlib.Core.Bool.{true}
use mathlib.Core.List.{List}
use Prim.Native.Nat.{ℕ, ◌<◌}
use Rattle.policy.specs.Policy.{Attr}
use Rattle.lists.specs.Lists.{listed}
use Rattle.lists.proofs.Laws.{listed-byte}

-- a value in the lists is a byte
pub listed_byte : (l : List Attr) (v : ℕ) → listed l v ≡ true → v < 256
listed_byte l v e = listed-byte l v e
