pub mod Filled  -- rows filled in one after another
pub mod Parts  -- rows by the values of a field
pub mod Joins  -- comparisons by the values of a field
