-- in reading order
pub mod Tables  -- the tables of a formula's comparisons
