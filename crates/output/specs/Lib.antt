-- in reading order
pub mod Lines  -- what is printed, as ASCII codes
pub mod Put  -- text in lent bytes
pub mod Digits  -- a number's last digits, and how many hold it
pub mod Claims  -- what is proved of the lines
