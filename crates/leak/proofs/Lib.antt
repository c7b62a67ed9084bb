pub mod Parts  -- the item of a leak: one more step on its way
pub mod Rows  -- rows that are carried out
pub mod Ways  -- the rows of a way
pub mod Helpers  -- sessions that stand open
pub mod ItemWays  -- an item is brought to its value
pub mod Actors  -- the session that acts
pub mod Leaks  -- the rows of a leak
pub mod Theorems  -- the claims, one line each
