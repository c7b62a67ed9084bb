pub mod Answers  -- what each node says, by the nodes before it
pub mod Operands  -- what operands and comparisons read of the holders' packed values
pub mod Depending  -- which nodes depend on a holder, and that the others say the same
