pub mod Laws  -- rules in memory, widths, values
pub mod NodeLaws  -- which nodes a formula may have
pub mod OperandLaws  -- what the operands of a node name
pub mod PolicyLaw  -- the rule file's format is lawful
pub mod Listed  -- list numbers in judged rules
pub mod Stands  -- where a file's attributes and list numbers stand
pub mod Numbers  -- which numbers writing can give
pub mod ReadNumbers  -- which numbers reading can give
pub mod ListFaults  -- what 18 and 19 say of rules in memory
pub mod Bound  -- the bits of the largest rule file
pub mod Cut  -- which bits of a rule file reading needs
