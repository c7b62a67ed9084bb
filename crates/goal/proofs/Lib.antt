pub mod Questions  -- what a question asks about
pub mod Helpers  -- a search of items asks of helpers below 256 only, and its depths are small
pub mod Pens  -- the pen before the first row
