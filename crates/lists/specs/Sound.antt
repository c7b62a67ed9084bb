-- What the rules of a file are like, as far as the crates above need it: small counts, narrow classes, users that are there, values in the lists and short
-- formulas.
-- Assumes nothing.
use Rattle.std.specs.Prelude.{◌≡◌, true, [], ℕ, ◌≤◌, ◌<◌, length, get_or}
use Rattle.std.proofs.Math.Option.{none}
use Rattle.policy.specs.Policy.{Session, Policy, width}
use Rattle.policy.specs.File.{policy_format}
use Rattle.lists.specs.Lists.{listed}

-- starting session number k
unfoldable pub starting_session : Policy → ℕ → Session
starting_session p k = get_or p.sessions k record { user = 0; value = 0 }

pub record Sound (p : Policy) : Type 0 where
  pub users : length p.users ≤ 16
  pub permissions : p.head.permissions ≤ 8
  pub sessions : length p.sessions ≤ 32
  pub items : length p.items ≤ 32
  pub user-width : width p.lists.of_user ≤ 8
  pub session-width : width p.lists.of_session ≤ 8
  pub item-width : width p.lists.of_item ≤ 8
  pub session-user : (k : ℕ) → k < length p.sessions → (starting_session p k).user < length p.users
  pub session-value : (k : ℕ) → k < length p.sessions → listed p.lists.of_session (starting_session p k).value ≡ true
  pub item-value : (k : ℕ) → k < length p.items → listed p.lists.of_item (get_or p.items k 0) ≡ true
  -- [01:The rule file, a formula has 1 to 64 nodes]; of a formula that is not there, none
  pub nodes : (f : ℕ) → length (get_or p.formulas f []) ≤ 64

-- [01:The rule file; When a number is given instead, 2, 5, 6, 7, 8]: what no number is given for is so
abbrev pub JudgedIsSound : Type 0
JudgedIsSound = (p : Policy) → policy_format.judge p ≡ none → Sound p
