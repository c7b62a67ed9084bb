mod Head  -- storing the head
