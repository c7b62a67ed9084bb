-- in reading order
pub mod Below  -- tests of the numbers below a number, and tables of them
pub mod Closed  -- the computed closure is the closure
pub mod Decided  -- the computed sets are the closures of runs, and the verdict whether they hold a granted pair
pub mod Counted  -- lists without repeats of what is counted
pub mod Theorems  -- the claims, one line each
