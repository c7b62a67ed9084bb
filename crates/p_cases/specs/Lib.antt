pub mod Cases  -- the marked cases in one table
