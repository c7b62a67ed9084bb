-- in reading order
pub mod ModelLaws  -- the model over rules in memory
pub mod Laws  -- steps on lent cells
pub mod Kept  -- what a step keeps
pub mod Coding  -- cells that code a run's state, and writing them
pub mod Table  -- the step on cells is the step of the run
pub mod Files  -- rules of a file are sound
pub mod Alike  -- live states that read alike
pub mod Counting  -- numbers count up
pub mod Theorems  -- the claims, one line each
