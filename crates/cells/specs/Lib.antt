-- in reading order
pub mod Kind  -- the kinds of a step and their numbers
pub mod Row  -- a step as a row of 64 bits
pub mod Leak  -- rows that are a leak
pub mod Cell  -- how cells code sessions and items
pub mod Claims  -- what is proved of rows and cells
