-- in reading order
pub mod Basis  -- what formulas are asked by
pub mod Scratch  -- what is lent to prepare formulas in
pub mod Asked  -- what is asked, and the formulas prepared for it
