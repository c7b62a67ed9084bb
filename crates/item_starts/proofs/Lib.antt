mod Asking  -- values that aren't found yet, asked for one after another
