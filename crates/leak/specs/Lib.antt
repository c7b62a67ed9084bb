-- in reading order
pub mod Leak  -- the rows of a leak
pub mod Turn  -- one step on the way of an item
pub mod Standing  -- what the rows so far have brought about in a run
pub mod Claims  -- what is proved of the rows of a leak
