-- in reading order
pub mod Rows  -- a row and its parts
pub mod Laws  -- places, cells, and what the lent cells say
pub mod Theorems  -- the claims, one line each
