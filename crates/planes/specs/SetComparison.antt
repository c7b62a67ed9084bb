-- Comparisons of sets by their operators.
-- Assumes nothing.
use Rattle.std.specs.Prelude.{ℕ}
use Rattle.planes.specs.declared.comparison.SetComparison.{SetComparison}
use Rattle.planes.specs.declared.comparison.SetComparison.TheVariants.{Member, Subset, ProperSubset}

-- the number of the operator in a node
unfoldable pub operator : SetComparison → ℕ
operator Member = 8
operator Subset = 9
operator ProperSubset = 10
