-- in reading order
pub mod Level  -- the steps of a formula's nodes on one board
pub mod StepList  -- a list of steps as the struct holds it
pub mod Prepared  -- a prepared formula
