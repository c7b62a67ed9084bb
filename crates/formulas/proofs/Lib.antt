pub mod Laws  -- what nodes say, one after another
pub mod BitLaws  -- values cut to their bits
pub mod TableLaws  -- tables of all operands, filled in class by class
pub mod ListLaws  -- list numbers do not matter for what formulas say
