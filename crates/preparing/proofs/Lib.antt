pub mod Boards  -- the steps find their rows
pub mod Outer  -- what the area says after the nodes that depend on neither holder are worked out
pub mod Whole  -- a prepared formula, from its parts
pub mod Own  -- the nodes of one formula among its places
