-- in reading order
pub mod Number  -- the papers' number of each refusal
