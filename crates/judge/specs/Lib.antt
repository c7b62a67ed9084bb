pub mod Judge  -- what a judged step leaves where it is done
