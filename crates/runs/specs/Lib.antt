-- in reading order
pub mod Model  -- what rules allow, whatever they are
pub mod Edge  -- what rules allow, as tests
pub mod State  -- sessions and items, and what stands at the start
pub mod Step  -- the six kinds of step, each with what it asks and what it does
pub mod Stepped  -- a step, computed
pub mod Run  -- runs of any length
pub mod Grant  -- which grants fit a question
pub mod Reach  -- what sessions and items can come to have, with no run
pub mod Outcome  -- what stands after some run, and leaks in few rows
pub mod Claims  -- what is proved of steps and runs
