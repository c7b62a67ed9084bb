pub mod Value  -- storing a value attribute by attribute
pub mod Node  -- what a node's check says
