pub mod Decided  -- what deciding comes to
