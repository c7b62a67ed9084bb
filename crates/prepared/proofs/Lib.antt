pub mod Lists  -- the parts of a node's step, and lists of steps
pub mod Start  -- what the rows are to be before the steps of a level
pub mod Level  -- what the rows say after the steps of a level
pub mod Parts  -- only the low bits of a packed value matter
pub mod Tables  -- what the tables of a prepared formula say
pub mod Meaning  -- what the rows of a prepared formula say
