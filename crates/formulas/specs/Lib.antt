-- in reading order
pub mod Value  -- an attribute's part of a packed value
pub mod Meaning  -- what a list of nodes says
pub mod Parts  -- private vocabulary: a node by answers or by tables, tables class by class
