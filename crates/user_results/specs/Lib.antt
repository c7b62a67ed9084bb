pub mod Found  -- what the searches of all users find together
