pub mod Parts  -- what the parts of the reader say of the head and the lists of attributes
