-- What reading into lent bytes leaves where it fails.
use Rattle.std.specs.Prelude.{ℕ, List, ◌≤◌, length, take}
use Rattle.std.specs.Io.KnownBytes.{Consumes}
use Rattle.std.specs.declared.option.Option.{Option}

-- what is gone from a reader's known bytes stands at the front of `buffer`, however much that is
abbrev pub KeepsFront : Option (List ℕ) → Option (List ℕ) → List ℕ → Type 0
KeepsFront old new buffer = (k : ℕ) × (k ≤ length buffer) × Consumes old new (take k buffer)
