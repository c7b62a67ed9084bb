-- What the published calls answer, with the papers' number for each case.
-- Reading gives the rules or the first number 1 to 8, 18 or 19; writing gives the bytes or the number that reading would give, then 11
-- [01:The rule file, "Writing fills the front of a lent byte slice"; When a number is given instead].
-- Assumes nothing.
use Rattle.std.specs.Prelude.{Result, Ok, Err, cond, List, ◌++◌, ℕ, leb, length, drop}
use Rattle.refusal.specs.declared.Refusal.{Refusal}
use Rattle.refusal.specs.Number.{number_of}
use Rattle.format.specs.Format.{Res, ok, bad, bits_until}
use Rattle.format.specs.File.{Bytes, refused, bytes, read_file, write_file}
use Rattle.policy.specs.Policy.{Policy}
use Rattle.policy.specs.File.{policy_format}
use Rattle.policy.specs.Rules.{policy_of}
use Rattle.policy.specs.declared.Rules.{Rules}

-- an answer to reading: a refusal's number, or what was read
pub data Answer : Type 0 where
  refusal : ℕ → Answer
  rules : Policy → Answer

-- what the program's answer stands for
unfoldable pub answer_of : Result Rules Refusal → Answer
answer_of (Ok r) = rules (policy_of r)
answer_of (Err e) = refusal (number_of e)

-- the answer, without the bits taken
unfoldable pub answered : Res Policy → Answer
answered (ok p q) = rules p
answered (bad n q) = refusal n

-- what reading a file answers
unfoldable pub reading : List ℕ → Answer
reading s = answered (read_file policy_format s)

-- how many bits reading a file takes: up to its end, or until the number was judged [02:T-03]
unfoldable pub bits_taken : List ℕ → ℕ
bits_taken s = bits_until (read_file policy_format s)

-- the file that holds a policy, or the number that reading it would give
unfoldable pub writing : Policy → Bytes
writing p = write_file policy_format p

-- what writing answers: nothing was written, for the number given, or so many bytes were
pub data Written : Type 0 where
  unwritten : ℕ → Written
  wrote : ℕ → Written

-- what the program's answer to writing stands for
unfoldable pub written : Result ℕ Refusal → Written
written (Ok n) = wrote n
written (Err e) = unwritten (number_of e)

-- what writing to so many bytes answers: the number, 11 where they are too few, or the length
unfoldable pub written_of : Bytes → ℕ → Written
written_of (refused n) room = unwritten n
written_of (bytes l) room = cond (leb (length l) room) (wrote (length l)) (unwritten 11)

-- what the lent bytes then hold: the file at the front and the rest as it was, or all as it was
unfoldable pub filled : Bytes → List ℕ → List ℕ
filled (refused n) out = out
filled (bytes l) out = cond (leb (length l) (length out)) (l ++ drop (length l) out) out
