-- in reading order
pub mod Told  -- an answer without its rows
pub mod Answer  -- refusal, verdict and counts of a file and a question
pub mod Checks  -- what is asked before a question is decided, private
pub mod Never  -- what demand 3 speaks of, said of runs
pub mod Means  -- what is promised of an answer
pub mod Claims  -- what is proved of the answer
