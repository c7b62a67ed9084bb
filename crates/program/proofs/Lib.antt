pub mod Laws  -- inputs by their length
pub mod Theorems  -- the claims
