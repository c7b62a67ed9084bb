pub mod Laws  -- rows written one after another
pub mod Brought  -- the next number after a session is brought, and after help
