-- in reading order; the meaning of the file itself is in the crates below: bits, format and policy
pub mod Answers  -- what the published calls answer
pub mod Claims  -- what is proved of reading and writing
