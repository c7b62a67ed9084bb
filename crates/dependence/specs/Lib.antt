-- in reading order
pub mod Answers  -- what each node says
pub mod Depends  -- which nodes depend on a holder
