-- in reading order
pub mod Laws  -- the first test that fails, numbers and cells that are left, what the program reads
pub mod Outcomes  -- what passed its tests, and what a number keeps
