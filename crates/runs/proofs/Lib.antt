-- in reading order
pub mod Laws  -- places of sessions and items, tests in a row, each kind of step, runs
pub mod Never  -- no step of any list grants exactly when there is no leak
pub mod Lists  -- a fact at every place of a list
pub mod Invariant  -- what stands after a run is within the closures
pub mod Bring  -- what is within the closures can be brought about
pub mod Shorten  -- fewer edges than values are enough
pub mod Decide  -- a leak exists exactly when the closures hold a granted pair
pub mod Short  -- a leak in few rows
pub mod Theorems  -- the claims, one line each
