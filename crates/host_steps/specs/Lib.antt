pub mod Steps  -- what the calls on live states leave
