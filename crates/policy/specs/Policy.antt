-- The rule file's parts [01:The rule file]: counts, attributes with their lists of values, holders' values, and formulas.
-- A policy is the meaning of rules: every later meaning is of the policy. Lists are as long as their counts.
-- Assumes nothing.
use Rattle.std.specs.Prelude.{cond, List, [], ◌∷◌, ℕ, zero, suc, ◌+◌, ◌^◌, leb, eqb}

-- a count of each kind
pub record Head : Type 0 where
  pub user_attrs : ℕ
  pub session_attrs : ℕ
  pub item_attrs : ℕ
  pub users : ℕ
  pub sessions : ℕ
  pub items : ℕ
  pub permissions : ℕ

-- an attribute: kind 0 is atomic, 1 a set; its list has size values. Attributes whose lists have the same number other than 0 use the same list
-- [02:T-01, "a list number, 0 to 31"]
pub record Attr : Type 0 where
  pub kind : ℕ
  pub size : ℕ
  pub list : ℕ

-- what stands where there is no attribute
unfoldable pub no_attr : Attr
no_attr = record { kind = 0; size = 0; list = 0 }

-- the same attributes, each of list 0
unfoldable pub unlisted : List Attr → List Attr
unlisted [] = []
unlisted (a ∷ l) = record { kind = a.kind; size = a.size; list = 0 } ∷ unlisted l

-- the attributes of users, of sessions and of items
pub record Lists : Type 0 where
  pub of_user : List Attr
  pub of_session : List Attr
  pub of_item : List Attr

-- a starting session: its user and its value
pub record Session : Type 0 where
  pub user : ℕ
  pub value : ℕ

-- a holder's value is the number of its attributes' values side by side; a formula is a list of nodes (see Nodes)
pub record Policy : Type 0 where
  pub head : Head
  pub lists : Lists
  pub users : List ℕ
  pub sessions : List Session
  pub items : List ℕ
  pub formulas : List (List ℕ)

-- the first w with 2 ^ w at least n, of k tried from w on
unfoldable pub fewest_from : ℕ → ℕ → ℕ → ℕ
fewest_from zero w n = w
fewest_from (suc k) w n = let later = fewest_from k (suc w) n in cond (leb n (2 ^ w)) w later

-- the fewest bits w with 2 ^ w at least n
unfoldable pub fewest_bits : ℕ → ℕ
fewest_bits n = fewest_from n 0 n

-- the bits of one value of an attribute, whatever the number of its list
unfoldable pub bits_for : Attr → ℕ
bits_for a = cond (eqb a.kind 0) (fewest_bits a.size) a.size

-- how many values an attribute can have: codes below this number stand for one
unfoldable pub codes : Attr → ℕ
codes a = cond (eqb a.kind 0) a.size (2 ^ a.size)

-- the bits of a holder's value
unfoldable pub width : List Attr → ℕ
width [] = 0
width (a ∷ l) = bits_for a + width l
