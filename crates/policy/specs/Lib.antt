-- in reading order
pub mod Policy  -- the rule file's parts, and what each may hold
pub mod Nodes  -- which nodes a formula may have
pub mod Operators  -- the operators' numbers
pub mod File  -- the rule file as a format
pub mod Rules  -- rules in memory, and the policy they stand for
pub mod Operands  -- what an operand of a node names, for the contracts of the functions that judge nodes
