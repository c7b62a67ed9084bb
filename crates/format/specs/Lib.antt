-- in reading order
pub mod Format  -- ways of building a format
pub mod File  -- a whole file that has a format
pub mod Reads  -- what a part of a reader says of what it read
pub mod Steps  -- what the functions of a writer say of one step
pub mod Reader  -- a reader over the bytes
