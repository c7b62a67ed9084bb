-- The numbers of the operators that a node may have [01:The rule file, the operator table].
-- Assumes nothing.
use Rattle.std.specs.Prelude.{ℕ}
use Rattle.policy.specs.declared.operators.Comparison.{Comparison}
use Rattle.policy.specs.declared.operators.Operator.{Operator}

abbrev pub number_of_comparison : Comparison → ℕ
number_of_comparison Comparison.Equal = 5
number_of_comparison Comparison.Less = 6
number_of_comparison Comparison.AtMost = 7
number_of_comparison Comparison.Member = 8
number_of_comparison Comparison.Subset = 9
number_of_comparison Comparison.ProperSubset = 10

abbrev pub number_of : Operator → ℕ
number_of Operator.False = 0
number_of Operator.True = 1
number_of Operator.Not = 2
number_of Operator.And = 3
number_of Operator.Or = 4
number_of (Operator.Compare comparison) = number_of_comparison comparison
