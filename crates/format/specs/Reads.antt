-- What a part of a reader says of what it read. A reader of the published calls can pass over this file: their promises do not cite it.
-- Assumes nothing.
use Rattle.std.specs.Prelude.{◌≡◌, Result, Ok, Err, ℕ, ◌+◌, ◌≤◌, true}
use Rattle.refusal.specs.declared.Refusal.{Refusal}
use Rattle.refusal.specs.Number.{number_of}
use Rattle.format.specs.Format.{Res, ok, bad, Format, field}
use Rattle.format.specs.declared.file_reader.FileReader.{FileReader}

-- any number of w bits
unfoldable pub any : ℕ → Format ℕ
any w = field w (λ _. true) 1

-- what a program's result stands for, at the place reached, where what it is refused by has a number
abbrev pub res_by : {A B E : Type 0} → (E → ℕ) → (B → A) → Result B E → ℕ → Res A
res_by number view (Ok b) q = ok (view b) q
res_by number view (Err e) q = bad (number e) q

-- the same by the papers' refusals
abbrev pub res_of : {A B : Type 0} → (B → A) → Result B Refusal → ℕ → Res A
res_of view r q = res_by number_of view r q

-- from the first reader to the second, at most so many bits of the bytes were read, and what they gave is what f gives at that place
pub record ReadsBy {A B E : Type 0} (number : E → ℕ) (f : Format A) (most : ℕ) (view : B → A) (old new : FileReader) (r : Result B E) : Type 0 where
  pub answer : res_by number view r new.bits.at ≡ f.read old.bits.src.now old.bits.at
  pub source : new.bits.src ≡ old.bits.src
  pub near : new.bits.at ≤ old.bits.at + most

-- the same by the papers' refusals
abbrev pub Reads : {A B : Type 0} → Format A → ℕ → (B → A) → FileReader → FileReader → Result B Refusal → Type 0
Reads f most view old new r = ReadsBy number_of f most view old new r
