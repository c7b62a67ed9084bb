-- in reading order
pub mod SetComparison  -- comparisons of sets, and the numbers of their operators
pub mod Word  -- words of 64 lanes, planes, operands and comparisons in lanes
