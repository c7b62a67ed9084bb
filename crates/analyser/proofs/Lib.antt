pub mod Widths  -- of a file's rules: widths, how values are bounded, what stands at the start
pub mod ItemsReach  -- the search of items is what one that is asked about can have
pub mod Hits  -- there is a hit exactly where the verdict is a leak
pub mod Asked  -- what a question asks, and what the searches say of it
pub mod Aims  -- what a leak aims at, where there is a hit
pub mod Starts  -- starting sessions that could have been brought about, computed and of runs
pub mod LeakMeans  -- the rows that are left are a leak of the run, and few
pub mod Decides  -- what the published promise of an answer rests on
pub mod Refusals  -- answers that give a number
pub mod Numbers  -- the numbers and verdicts of an answer, by relations
pub mod Few  -- how large the counts of an answer are
pub mod Unlisted  -- list numbers do not matter to what is told
pub mod Theorems  -- the claims
