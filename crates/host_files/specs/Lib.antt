pub mod Numbers  -- what the calls on rule files return
