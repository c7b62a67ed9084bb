-- What is asked before a question is decided, and the answer where it is. Private vocabulary: nothing here has to be believed.
-- Assumes nothing.
use Rattle.std.specs.Prelude.{Bool, cond, List, ℕ, ◌+◌, ◌*◌, ◌^◌, ltb, is_some, unwrap_or}
use Rattle.policy.specs.Rules.{sessions_of}
use Rattle.policy.specs.declared.Rules.{Rules}
use Rattle.search.specs.declared.queue.Found.{Found}
use Rattle.user_results.specs.Found.{all_found}
use Rattle.decision.specs.declared.Decision.{Decision}
use Rattle.analyser.specs.declared.Answer.{Answer}
use Rattle.analyser.specs.declared.Verdict.TheVariants as Verdict

-- the rows that classes of s and o bits need; of classes that no file has, none
unfoldable pub rows_for : ℕ → ℕ → ℕ
rows_for s o = cond (ltb 8 s) 0 (cond (ltb 8 o) 0 (2 ^ s + 2 ^ o * (2 ^ s + 1) + 1))

-- the searches of the users hold every starting session
abbrev pub starts_found : Rules → List Found → Bool
starts_found r users = all_found users (sessions_of r.sessions)

-- the answer of a decision
abbrev pub answer_by : Decision → Answer
answer_by d = record { verdict = cond (is_some d.leak) Verdict.Leak Verdict.Safe; pairs = d.pairs; values = d.values; rows = unwrap_or d.leak 0 }
