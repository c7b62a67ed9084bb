-- in reading order
pub mod Start  -- what starting does to the live state
pub mod Claims  -- what is proved of it
