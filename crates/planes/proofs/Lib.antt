pub mod Numbers  -- numbers by their bits: fields, one bit more
pub mod Words  -- words of lanes, planes
pub mod Turns  -- a turn of each loop over bits or members
pub mod Values  -- numbers that are values of a class
pub mod Comparisons  -- comparisons of operands
