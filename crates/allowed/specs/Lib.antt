-- in reading order
pub mod Allowed  -- what rules allow, as a model of runs
pub mod Claims  -- what is proved of it
