-- in reading order
pub mod Field  -- bit i of the bytes, and the number at a place of w bits
pub mod Packed  -- fields side by side as bytes, and storing them
pub mod Set  -- sets by their members
