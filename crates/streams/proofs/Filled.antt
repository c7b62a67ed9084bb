-- Bytes that are read into a part of a list, one read after another.
use Rattle.std.proofs.Common.{◌≡◌, ℕ, ◌+◌, List, ◌++◌, take, drop, sym, ap, subst, ◌∙◌, take-add}
use Rattle.std.proofs.KnownBytes.{Consumes-trans}
use Rattle.std.specs.declared.option.Option.{Option}
use Rattle.std.specs.Io.KnownBytes.{Consumes}

-- `old` was filled up to place `at`, and `new` has that front and n bytes more
pub consumes_more : (a b c : Option (List ℕ)) (old new : List ℕ) (at n : ℕ) → take at new ≡ take at old → Consumes a b (take at old)
    → Consumes b c (take n (drop at new)) → Consumes a c (take (at + n) new)
consumes_more a b c old new at n front before read =
    subst (Consumes a c) (ap (λ l. l ++ take n (drop at new)) (sym front) ∙ sym (take-add at n new)) (Consumes-trans a b c _ _ before read)
