-- What is proved of reading and writing, each claim under the words that it answers. The proofs are in proofs/Theorems.antt.
-- Assumes nothing.
use Rattle.std.specs.Prelude.{◌≡◌, ◌⊎◌, List, [], ◌++◌, ℕ, ◌+◌, ◌*◌, ◌^◌, ◌≤◌, ◌<◌, length, get_or, take}
use Rattle.bits.specs.Field.{number_at}
use Rattle.bits.specs.Packed.{packed}
use Rattle.format.specs.File.{SameBits, Fit, refused, bytes}
use Rattle.policy.specs.Policy.{Attr, no_attr, Policy, fewest_bits}
use Rattle.policy.specs.Nodes.{op_of, first_of, second_of, holder_of, named}
use Rattle.policy.specs.File.{policy_format}
use Rattle.policy.specs.Rules.{policy_of}
use Rattle.policy.specs.declared.Rules.{Rules}
use Rattle.rules.specs.Answers.{refusal, rules, reading, bits_taken, writing}

-- every element is a byte
abbrev pub Bytes : List ℕ → Type 0
Bytes s = (k : ℕ) → get_or s k 0 < 256

-- demand 2: a rule file read and written back has the same bytes
abbrev pub BytesAgain : Type 0
BytesAgain = (s : List ℕ) (p : Policy) → Bytes s → reading s ≡ rules p → writing p ≡ bytes s

-- demand 2: rules within the limits, written and read, are the same rules
abbrev pub RulesAgain : Type 0
RulesAgain = (p : Policy) (s : List ℕ) → writing p ≡ bytes s → reading s ≡ rules p

-- [01:The rule file, "rules that no file can hold get the number that reading them would"]: where every number fits its bits, so that
-- there are bytes to read, reading them gives that number. (A number that does not fit its bits is refused by its field's own number.)
abbrev pub WritingRefusesAsReading : Type 0
WritingRefusesAsReading =
    (r : Rules) (n : ℕ) → writing (policy_of r) ≡ refused n → Fit (policy_format.fields (policy_of r)) → reading (packed (policy_format.fields (policy_of r))) ≡ refusal n

-- the numbers that reading a file can give in place of rules [01:When a number is given instead, table; 02:T-01]
abbrev pub FileNumber : ℕ → Type 0
FileNumber n = ((1 ≤ n) × (n ≤ 8)) ⊎ ((18 ≤ n) × (n ≤ 19))

-- the numbers that reading gives: never 0, which stands for accepted where an answer is a number
abbrev pub ReadingNumbers : Type 0
ReadingNumbers = (s : List ℕ) (n : ℕ) → reading s ≡ refusal n → FileNumber n

-- the numbers that writing gives besides 11: 2, 4 to 8, 18 and 19; 1 and 3 are said of bytes only
abbrev pub WritingNumbers : Type 0
WritingNumbers = (r : Rules) (n : ℕ) → writing (policy_of r) ≡ refused n → (n ≡ 2) ⊎ ((4 ≤ n) × (n ≤ 8)) ⊎ ((18 ≤ n) × (n ≤ 19))

-- attribute k of all classes in reading order; past the end no attribute
abbrev pub attribute_of : Policy → ℕ → Attr
attribute_of p k = get_or (p.lists.of_user ++ p.lists.of_session ++ p.lists.of_item) k no_attr

-- node i of formula f; past the end 0, which is the node "false"
abbrev pub node_of : Policy → ℕ → ℕ → ℕ
node_of p f i = get_or (get_or p.formulas f []) i 0

-- [02:T-01, "Two attributes with the same list number other than 0 have the same size"], in rules that are read
abbrev pub OneSizePerList : Type 0
OneSizePerList =
    (s : List ℕ) (p : Policy) → reading s ≡ rules p → (i j : ℕ) → (attribute_of p i).list ≡ (attribute_of p j).list → 0 < (attribute_of p i).list
    → (attribute_of p i).size ≡ (attribute_of p j).size

-- node x compares two attributes: its operator is 5 to 10, and its operands' holders are 0 to 4
pub record Compares (x : ℕ) : Type 0 where
  pub from-5 : 5 ≤ op_of x
  pub to-10 : op_of x ≤ 10
  pub first : holder_of (first_of x) ≤ 4
  pub second : holder_of (second_of x) ≤ 4

-- [02:T-01, "Operators 5 to 10 between two attributes need equal list numbers, 0 included"], in rules that are read
abbrev pub ComparedListsAgree : Type 0
ComparedListsAgree =
    (s : List ℕ) (p : Policy) → reading s ≡ rules p → (f i : ℕ) → Compares (node_of p f i)
    → (named p.lists (first_of (node_of p f i))).list ≡ (named p.lists (second_of (node_of p f i))).list

-- the list number of attribute k of a file, in reading order: the head takes 40 bits, an attribute 12, its kind and size 6
abbrev pub list_in : List ℕ → ℕ → ℕ
list_in s k = number_at s (40 + 12 * k + 6) 5

-- how many attributes a file has: the head's first three counts
abbrev pub attributes_in : List ℕ → ℕ
attributes_in s = number_at s 0 4 + number_at s 4 4 + number_at s 8 4

-- [02:T-01, "A file with 0 throughout reads as before"]: where every list number is 0, neither 18 nor 19 is given
pub record ListZeroFitsAll : Type 0 where
  pub read : (s : List ℕ) (n : ℕ) → ((k : ℕ) → k < attributes_in s → list_in s k ≡ 0) → reading s ≡ refusal n → n ≤ 8
  pub written : (r : Rules) (n : ℕ) → ((k : ℕ) → (attribute_of (policy_of r) k).list ≡ 0) → writing (policy_of r) ≡ refused n → n ≤ 8

-- [02:T-01, "Turned away"], of rules in memory (of files `attr_format` and `node_format` say it): 18 is given only for a list number that is too
-- large or a size that differs from that of an earlier attribute of the same list other than 0; 19 only for a node that compares attributes of
-- different lists
pub record ListFaults : Type 0 where
  pub eighteen : (r : Rules) → writing (policy_of r) ≡ refused 18
      → (k : ℕ) × ((32 ≤ (attribute_of (policy_of r) k).list)
      ⊎ ((j : ℕ) × ((j < k) × (0 < (attribute_of (policy_of r) k).list) × ((attribute_of (policy_of r) j).list ≡ (attribute_of (policy_of r) k).list)
      × ((attribute_of (policy_of r) j).size ≡ (attribute_of (policy_of r) k).size → ⊥))))
  pub nineteen : (r : Rules) → writing (policy_of r) ≡ refused 19
      → (f : ℕ) × (i : ℕ) × (let x = node_of (policy_of r) f i in
      Compares x × ((named (policy_of r).lists (first_of x)).list ≡ (named (policy_of r).lists (second_of x)).list → ⊥))

-- [01:The rule file, "the fewest bits w with 2^w at least n"], for every size together
abbrev pub SizeTakesFewestBits : Type 0
SizeTakesFewestBits = (n : ℕ) → (n ≤ 2 ^ fewest_bits n) × ((w : ℕ) → n ≤ 2 ^ w → fewest_bits n ≤ w)

-- the bytes of the largest file
abbrev pub largest_file : ℕ
largest_file = 2069

-- no file that is read has more bytes, and what stands beyond them does not matter: a longer input, cut anywhere behind them, gets the same answer
pub record FrontDecides : Type 0 where
  pub same : (s : List ℕ) (k : ℕ) → largest_file < k → reading (take k s) ≡ reading s
  pub short : (s : List ℕ) (p : Policy) → reading s ≡ rules p → length s ≤ largest_file

-- [02:T-03, "It counts the bits it takes and returns the count"]
pub record BitsTaken : Type 0 where
  -- with the rules or with 1 exactly 8 times the file's bytes
  pub accepted : (s : List ℕ) (p : Policy) → reading s ≡ rules p → bits_taken s ≡ 8 * length s
  pub cut : (s : List ℕ) → reading s ≡ refusal 1 → bits_taken s ≡ 8 * length s
  -- with another number the bits read until that was judged: bytes that have these bits get the same number and the same count, or they are
  -- accepted, where 3 was given for bytes that follow the filling bits and now none follow
  pub enough : (s s' : List ℕ) (n : ℕ) → reading s ≡ refusal n → (n ≡ 1 → ⊥) → SameBits s s' (bits_taken s)
      → ((reading s' ≡ refusal n) × (bits_taken s' ≡ bits_taken s))
      ⊎ ((p : Policy) × ((n ≡ 3) × (8 * length s' ≡ bits_taken s) × (reading s' ≡ rules p)))
  -- and none of the bits taken can be left out: bytes that end before the last of them get 1
  pub needed : (s s' : List ℕ) → SameBits s s' (8 * length s') → 8 * length s' < bits_taken s → reading s' ≡ refusal 1
