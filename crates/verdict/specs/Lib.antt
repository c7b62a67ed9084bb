-- in reading order
pub mod Closure  -- what comes from some values by edges, computed
pub mod Verdict  -- the verdict and the counts, computed
pub mod Meaning  -- lists without repeats, and what the counts are of
pub mod Claims  -- what is proved of them
