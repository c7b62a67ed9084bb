pub mod Filling  -- where tables stand, how many rows they have, and tables filled in one after another
