-- The verdict and the counts, computed [01:The question]: the values of sessions are below n, those of items below k.
-- Assumes nothing.
use Rattle.std.specs.Prelude.{Bool, true, false, ◌&&◌, ◌||◌, List, [], ◌∷◌, ℕ, zero, suc, ◌+◌, eqb, length}
use Rattle.lanes.specs.Lanes.{some_below, count_below}
use Rattle.runs.specs.Model.{Model}
use Rattle.runs.specs.Edge.{opens_with, changes_to, makes_with, modifies_to, accesses}
use Rattle.runs.specs.State.{Session, closed, opened, State, session_at, item_at}
use Rattle.runs.specs.Grant.{Who, session, user, anyone, Which, item, anything}
use Rattle.verdict.specs.Closure.{table, in_table, closure}

module _ (m : Model) (n : ℕ) where
  -- the values that sessions of user u can have: opened, then changed any number of times
  unfoldable pub reached : ℕ → List Bool
  reached u = closure n (opens_with m u) (changes_to m u)

  -- the values that one session of user u that has value held can have: by its own changes
  unfoldable pub reached_from : ℕ → ℕ → List Bool
  reached_from u held = closure n (eqb held) (changes_to m u)

  -- the values that some session can have
  unfoldable pub helpers : List Bool
  helpers = table (λ v. some_below (λ u. in_table (reached u) v) m.users) n

  -- the starting sessions of the list could have been brought about by their users [01:When a number is given instead, 9]
  unfoldable pub all_brought : List Session → Bool
  all_brought [] = true
  all_brought (closed ∷ l) = all_brought l
  all_brought (opened u v ∷ l) = in_table (reached u) v && all_brought l

  -- how many pairs of user, of the first so many, and session value can be open
  unfoldable pub pairs : ℕ → ℕ
  pairs zero = 0
  pairs (suc u) = pairs u + count_below (in_table (reached u)) n

module _ (m : Model) (start : State) (n k : ℕ) where
  -- some session can make an item with value o
  unfoldable pub can_make : ℕ → Bool
  can_make o = some_below (λ v. in_table (helpers m n) v && makes_with m v o) n

  -- some session can change an item from value o to value p
  unfoldable pub can_modify : ℕ → ℕ → Bool
  can_modify o p = some_below (λ v. in_table (helpers m n) v && modifies_to m v o p) n

  -- the values that an item that is made can have
  unfoldable pub made : List Bool
  made = closure k can_make can_modify

  -- the values that an item that has value held can have
  unfoldable pub item_from : ℕ → List Bool
  item_from held = closure k (eqb held) can_modify

  -- one session, as it stands: its own values, never a sister's
  unfoldable pub of_one : Session → ℕ → ℕ → Bool
  of_one closed u v = false
  of_one (opened owner held) u v = eqb u owner && in_table (reached_from m n owner held) v

  -- one that is asked about can be a session of user u with value v
  unfoldable pub who_can : Who → ℕ → ℕ → Bool
  who_can (session j) u v = of_one (session_at start j) u v
  who_can (user a) u v = eqb u a && in_table (reached m n u) v
  who_can anyone u v = in_table (reached m n u) v

  -- an item that is asked about can have value o
  unfoldable pub which_can : Which → ℕ → Bool
  which_can (item j) o = in_table (item_from (item_at start j)) o
  which_can anything o = in_table made o || some_below (λ j. in_table (item_from (item_at start j)) o) (length start.items)

  -- a user and value that one asked about can have, and a value that an item asked about can have, are granted the permission
  unfoldable pub leaks : Who → Which → ℕ → Bool
  leaks who which permission =
      some_below (λ u. some_below (λ v. who_can who u v && some_below (λ o. which_can which o && accesses m permission v o) k) n) m.users

  -- how many values an item that is asked about can have
  unfoldable pub values : Which → ℕ
  values which = count_below (which_can which) k
