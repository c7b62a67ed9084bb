-- in reading order
pub mod Lent  -- the live state, and what a call leaves
