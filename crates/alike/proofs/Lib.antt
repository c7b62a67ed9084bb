pub mod Masks  -- values that agree in the bits of a mask
pub mod Asking  -- one value after another, the last first
pub mod Same  -- values that agree in the bits of the operands of all comparisons
pub mod FieldLaws  -- where the operands of one holder lie
