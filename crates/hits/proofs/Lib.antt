pub mod Laws  -- the first hit
