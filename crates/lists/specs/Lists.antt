-- Which values are in the lists of some attributes [01:The rule file 8; Runs, "value in the lists"].
-- Assumes nothing.
use Rattle.std.specs.Prelude.{Bool, ◌&&◌, List, [], ◌∷◌, ℕ, ◌/◌, ◌%◌, ◌^◌, ltb, eqb}
use Rattle.policy.specs.Policy.{Attr, codes, width}

-- v is made of a code of each attribute, side by side; with no attribute it is 0
unfoldable pub in_lists : List Attr → ℕ → Bool
in_lists [] v = eqb v 0
in_lists (a ∷ l) v = ltb (v / 2 ^ width l) (codes a) && in_lists l (v % 2 ^ width l)

-- the values that holders can have: a holder's value is a byte. No file's lists are wider; of rules in memory whose lists are wider,
-- only the values below 256 count.
unfoldable pub listed : List Attr → ℕ → Bool
listed l v = ltb v 256 && in_lists l v
