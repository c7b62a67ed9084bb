pub mod Laws  -- fields: bits and numbers at places
pub mod Packed  -- fields side by side, and the bytes that hold them
pub mod Stored  -- storing fields, bit by bit
pub mod Filled  -- fields stored from the first bit on are the packed fields
pub mod Set  -- sets as masks
