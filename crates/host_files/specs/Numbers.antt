-- What the exported calls return: 0 for accepted, or paper 01's number.
-- Assumes nothing.
use Rattle.std.specs.Prelude.{cond, ℕ, leb, length}
use Rattle.format.specs.File.{Bytes, refused, bytes}
use Rattle.rules.specs.Answers.{Answer, refusal, rules, writing}

-- the number of an answer to reading
unfoldable pub number_of : Answer → ℕ
number_of (refusal n) = n
number_of (rules p) = 0

-- what is written of an answer to reading: a refused file is not written
unfoldable pub rewritten : Answer → Bytes
rewritten (refusal n) = refused n
rewritten (rules p) = writing p

-- the number that writing to so many bytes gives
unfoldable pub write_number : Bytes → ℕ → ℕ
write_number (refused n) room = n
write_number (bytes l) room = cond (leb (length l) room) 0 11

-- the length that was written: 0 where a number is given
unfoldable pub write_length : Bytes → ℕ → ℕ
write_length (refused n) room = 0
write_length (bytes l) room = cond (leb (length l) room) (length l) 0
