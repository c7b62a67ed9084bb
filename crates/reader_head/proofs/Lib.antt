pub mod Reached  -- rows that were read so far
