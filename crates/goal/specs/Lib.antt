pub mod Asked  -- the searches that a question needs, the first hit, what a leak aims at, and the pen before its first row
