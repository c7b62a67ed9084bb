-- in reading order
pub mod Values  -- private vocabulary: rows by the values of a field
pub mod Ways  -- private vocabulary: operands with few values
