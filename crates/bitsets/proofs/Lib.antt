pub mod Rows  -- for callers: rows put in place of others
pub mod Steps  -- for callers: the parts of a step, what a step says, steps one after another
pub mod Words  -- rows by their four words
