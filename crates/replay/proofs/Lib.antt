pub mod Laws  -- what a question asks, what fits it, rows one after another, what a replay answers
pub mod Asked  -- what a question asks, computed and as the relation says
pub mod Room  -- enough cells and numbers for rows
pub mod Run  -- rows on cells are rows of the run
pub mod Theorems  -- the claims
