-- in reading order
pub mod Asked  -- what three bytes ask of rules, as a relation
pub mod Question  -- the same, computed
pub mod Rows  -- rows one after another
pub mod Replay  -- what a replay answers and leaves
pub mod Claims  -- what is proved of it
