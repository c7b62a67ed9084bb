-- in reading order
pub mod Lists  -- which values are in the lists
pub mod Sound  -- what the rules of a file are like
