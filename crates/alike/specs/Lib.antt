-- in reading order
pub mod Alike  -- packed values that a formula cannot tell apart
pub mod Mask  -- private vocabulary: packed values that agree in the bits of a mask
pub mod Fields  -- private vocabulary: where operands lie
