pub mod Laws  -- texts one after another, numerals
pub mod Lengths  -- how long the lines are
pub mod Theorems  -- the claims
