-- in reading order
pub mod Program  -- what the program answers to an input
pub mod Claims  -- what is proved of it
