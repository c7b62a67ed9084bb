pub mod Decide  -- what deciding comes to
