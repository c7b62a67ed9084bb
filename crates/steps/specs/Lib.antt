-- in reading order
pub mod Step  -- what a step does to the live state
pub mod Codes  -- when cells code a run's state
pub mod Claims  -- what is proved of steps on cells
