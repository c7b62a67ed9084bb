-- in reading order
pub mod Leaf  -- a comparison of two holders' attributes
pub mod Side  -- one operand of it, by lane and row
