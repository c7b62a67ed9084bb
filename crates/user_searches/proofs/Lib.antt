pub mod Laws  -- what a loop over the users fills
