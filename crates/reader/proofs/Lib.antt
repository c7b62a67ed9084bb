pub mod Value  -- a value that was read so far
pub mod Counted  -- lists that were read are as long as the head says
pub mod Placed  -- a part of a list after it was lent
