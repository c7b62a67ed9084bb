-- What the functions that write a format say of one step. A reader of the published calls can pass over this file: their promises do not cite it.
-- Assumes nothing.
use Rattle.std.specs.Prelude.{◌≡◌, List, ℕ, ◌+◌, Result, Ok, Err}
use Rattle.std.proofs.Math.Option.{Option, none, some}
use Rattle.bits.specs.Packed.{widths, puts}
use Rattle.format.specs.Format.{Format}
use Rattle.format.specs.declared.Stopped.{Stopped}
use Rattle.refusal.specs.Number.{number_of}
use Rattle.refusal.specs.declared.Refusal.{Refusal}

module _ {E : Type 0} where
  -- the fault that storing found, by its number
  unfoldable pub fault_of : (E → ℕ) → Result ℕ (Stopped E) → Option ℕ
  fault_of number (Ok next) = none
  fault_of number (Err stopped) = some (number stopped.refusal)

  -- the place after what was stored
  abbrev pub place_of : Result ℕ (Stopped E) → ℕ
  place_of (Ok next) = next
  place_of (Err stopped) = stopped.at

-- a value was judged as f says, where what it is refused by has a number; its fields before its first fault, and no others, were stored in the bytes
-- o, now o', from the place `at` on; and the place is the one after them
pub record StoresBy {A E : Type 0} (number : E → ℕ) (f : Format A) (a : A) (o o' : List ℕ) (at : ℕ) (result : Result ℕ (Stopped E)) : Type 0 where
  pub fault : fault_of number result ≡ f.judge a
  pub place : place_of result ≡ at + widths (f.kept a)
  pub stored : o' ≡ puts o at (f.kept a)

-- the same by the papers' refusals
abbrev pub Stores : {A : Type 0} → Format A → A → List ℕ → List ℕ → ℕ → Result ℕ (Stopped Refusal) → Type 0
Stores f a o o' at result = StoresBy number_of f a o o' at result
