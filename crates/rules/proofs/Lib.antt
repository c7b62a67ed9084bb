pub mod Laws  -- laws of the answers
pub mod Theorems  -- the claims, one line each
pub mod Written  -- what writing makes
