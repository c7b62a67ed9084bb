mod Offering  -- session values, the last first: what each may change an item to
