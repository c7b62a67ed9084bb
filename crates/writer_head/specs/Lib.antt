pub mod Parts  -- what the parts of the writer say of what they store
