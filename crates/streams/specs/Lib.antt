pub mod Front  -- what a read that failed leaves
