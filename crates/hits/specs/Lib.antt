pub mod Hits  -- the first hit
