pub mod Laws  -- one session value of each kind is enough
