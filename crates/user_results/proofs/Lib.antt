pub mod Laws  -- what the users' searches find together, one more at a time
pub mod Starts  -- starting sessions, one more at a time
pub mod UsersReach  -- the users' searches are what their sessions can have
