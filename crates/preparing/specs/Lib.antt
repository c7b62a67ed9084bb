-- in reading order
pub mod Levels  -- the lists of steps of a formula
