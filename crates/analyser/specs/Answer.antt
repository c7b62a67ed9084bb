-- Refusal, verdict and counts of a file and a question [01:The question; When a number is given instead, "the analyser adds 9, 10, 11"].
-- Assumes nothing.
use Rattle.std.specs.Prelude.{Bool, not, cond, List, ℕ, ◌+◌, ◌*◌, ◌^◌, ltb}
use Rattle.policy.specs.Policy.{Policy, width}
use Rattle.rules.specs.Answers.{Answer, refusal, rules}
use Rattle.verdict.specs.Verdict.{all_brought, pairs, leaks, values}
use Rattle.allowed.specs.Allowed.{model_of}
use Rattle.starting.specs.Start.{beginning}
use Rattle.replay.specs.Question.{parts_of, who_of, which_of, asks}
use Rattle.analyser.specs.Told.{safe_verdict, leak_verdict, Told, refused}

-- how many values a class of s bits has room for
unfoldable pub session_values : Policy → ℕ
session_values p = 2 ^ width p.lists.of_session

unfoldable pub item_values : Policy → ℕ
item_values p = 2 ^ width p.lists.of_item

-- the rows that a leak may need [01:The question 5]
unfoldable pub rows_needed : Policy → ℕ
rows_needed p = session_values p + item_values p * (session_values p + 1) + 1

-- every starting session could have been brought about by its user
unfoldable pub starts_brought : Policy → Bool
starts_brought p = all_brought (model_of p) (session_values p) (beginning p).sessions

-- of rules and a question that are judged good
unfoldable pub decided : Policy → List ℕ → Told
decided p question =
    let q = parts_of question in
    let n = session_values p in
    let k = item_values p in
    record {
      number = 0;
      verdict = cond (leaks (model_of p) (beginning p) n k (who_of q) (which_of q) q.permission) leak_verdict safe_verdict;
      pairs = pairs (model_of p) n (model_of p).users;
      values = values (model_of p) (beginning p) n k (which_of q);
    }

-- the answer: the file's number, 9, 10, 11, then the verdict; `room` is how many rows are lent
unfoldable pub told : Answer → List ℕ → ℕ → Told
told (refusal n) question room = refused n
told (rules p) question room =
    cond (not (starts_brought p)) (refused 9)
    (cond (not (asks p question)) (refused 10)
    (cond (ltb room (rows_needed p)) (refused 11) (decided p question)))
