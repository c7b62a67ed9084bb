-- What rules allow, whatever they are: the theory of runs is about any model and sees no formula.
-- Assumes nothing.
use Rattle.std.specs.Prelude.{Bool, ℕ}

-- users and permissions are the numbers below a count; a value is a number; each test is given the values that its formula may look at
pub record Model : Type 0 where
  pub users : ℕ
  pub permissions : ℕ
  -- values of sessions and of items that are in the lists
  pub session_value : ℕ → Bool
  pub item_value : ℕ → Bool
  -- user, proposed session value
  pub may_open : ℕ → ℕ → Bool
  -- user, session value, proposed session value
  pub may_change : ℕ → ℕ → ℕ → Bool
  -- session value, proposed item value
  pub may_make : ℕ → ℕ → Bool
  -- session value, item value, proposed item value
  pub may_modify : ℕ → ℕ → ℕ → Bool
  -- permission, session value, item value
  pub may_access : ℕ → ℕ → ℕ → Bool
