pub mod Laws  -- values that are in the lists
pub mod Narrow  -- values in the lists are as narrow as these
pub mod Judged  -- what is judged to be no fault is sound
