mod Filled  -- a read in place, and one read after another
