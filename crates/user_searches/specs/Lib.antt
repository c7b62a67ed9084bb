pub mod Opened  -- the session values that each user may open a session with
