pub mod ModelLaws  -- for callers: the model of rules
pub mod Laws  -- values of users, a formula of rules
pub mod Theorems  -- the claims, one line each
