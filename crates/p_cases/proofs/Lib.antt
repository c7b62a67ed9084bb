pub mod Theorems  -- the one result
