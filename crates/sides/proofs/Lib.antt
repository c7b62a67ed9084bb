pub mod Sides  -- operands by lane and row
pub mod Fields  -- where attributes lie
pub mod Repeats  -- rows with the same operands
