-- Sets by their members [01:The rule file, "value 0 is the field's first bit"]: member 0 is the first, most significant, bit of the field,
-- so sets of different sizes meet at member 0. A set is the low bits of a packed value: as many as its size, and at most 8.
-- Assumes nothing.
use Rattle.std.specs.Prelude.{Bool, true, not, ◌&&◌, ◌||◌, ℕ, zero, suc, ◌-◌, ◌/◌, ◌%◌, ◌^◌, min, ltb, eqb}

-- how many members a set of size n can have
unfoldable pub size_of : ℕ → ℕ
size_of n = min n 8

-- whether i is a member of the set of size n in x
unfoldable pub in_set : ℕ → ℕ → ℕ → Bool
in_set n x i = ltb i (size_of n) && eqb (x / 2 ^ (size_of n - 1 - i) % 2) 1

-- whether f holds of every number below n
unfoldable pub all_below : (ℕ → Bool) → ℕ → Bool
all_below f zero = true
all_below f (suc n) = all_below f n && f n

-- whether every member of the set of size n in x is one of the set of size m in y
unfoldable pub subset_of : ℕ → ℕ → ℕ → ℕ → Bool
subset_of n x m y = all_below (λ i. not (in_set n x i) || in_set m y i) (size_of n)

-- whether it is a subset, and not the other way round
unfoldable pub proper_of : ℕ → ℕ → ℕ → ℕ → Bool
proper_of n x m y = subset_of n x m y && not (subset_of m y n x)
