-- in reading order
pub mod Writing  -- rows written so far, and the sessions that stand open
pub mod Way  -- the rows that bring a session to a value
