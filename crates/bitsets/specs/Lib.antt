-- in reading order
pub mod Rows  -- rows of 256 bits in an area of words
pub mod Steps  -- steps that work out rows from others
