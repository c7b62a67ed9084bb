pub mod BasisLaws  -- for callers: what rules allow is what their basis allows
pub mod ScratchLaws  -- for callers: what is lent to prepare formulas in
pub mod LaneLaws  -- lanes behind a test
pub mod RowLaws  -- prepared formulas, in the model's terms
pub mod AlikeLaws  -- for callers: session values that may change items alike
