-- What `analyse` promises of an answer [Demand 3; 01:The question; Agreement]: what is told, and what it means of runs: safe is never, a leak
-- replays, and the counts are of what stands after some run.
-- Assumes nothing.
use Rattle.std.specs.Prelude.{◌≡◌, List, ℕ, ◌≤◌, length, take, drop}
use Rattle.policy.specs.Policy.{Policy}
use Rattle.rules.specs.Answers.{reading, rules}
use Rattle.runs.specs.Grant.{Who, Which}
use Rattle.runs.specs.Outcome.{SessionStands, ItemStands}
use Rattle.verdict.specs.Meaning.{Counts}
use Rattle.allowed.specs.Allowed.{model_of}
use Rattle.std.proofs.Math.Option.{none}
use Rattle.starting.specs.Start.{beginning}
use Rattle.replay.specs.Asked.{Asked}
use Rattle.replay.specs.Replay.{replayed}
use Rattle.replay.specs.Claims.{Enough, AskedLeak}
use Rattle.analyser.specs.Told.{no_verdict, safe_verdict, leak_verdict, Told}
use Rattle.analyser.specs.Answer.{rows_needed, told}
use Rattle.analyser.specs.Never.{Never}

-- the answer t and the first n of the rows `after`, where `before` were lent
pub record Means (file question before after : List ℕ) (t : Told) (n : ℕ) : Type 0 where
  -- number, verdict and counts
  pub answer : t ≡ told (reading file) question (length before)
  -- no row is written unless it is of a leak, and then so many at the front
  pub rows_none : (t.verdict ≡ leak_verdict → ⊥) → (n ≡ 0) × (after ≡ before)
  pub rows_long : length after ≡ length before
  pub rows-rest : drop n after ≡ drop n before
  pub rows_few : (p : Policy) → reading file ≡ rules p → n ≤ rows_needed p
  -- safe is never
  pub safe : t.verdict ≡ safe_verdict → (p : Policy) → reading file ≡ rules p
      → (who : Who) (which : Which) (permission : ℕ) → Asked p question who which permission → Never p who which permission
  -- the rows of a leak are a leak of what is asked, and replay in any cells that are enough, whatever they held
  pub leak : t.verdict ≡ leak_verdict → (p : Policy) → reading file ≡ rules p → AskedLeak p question (take n after)
  pub replays : t.verdict ≡ leak_verdict → (p : Policy) → reading file ≡ rules p → (sessions items : List ℕ)
      → Enough p (take n after) (length sessions) (length items)
      → (replayed (reading file) question (take n after) sessions items).refusal ≡ none
  -- the counts are of what stands after some run
  pub pairs : (t.verdict ≡ no_verdict → ⊥) → (p : Policy) → reading file ≡ rules p
      → Counts (λ (x : ℕ × ℕ). SessionStands (model_of p) (beginning p) x.0 x.1) t.pairs
  pub values : (t.verdict ≡ no_verdict → ⊥) → (p : Policy) → reading file ≡ rules p
      → (who : Who) (which : Which) (permission : ℕ) → Asked p question who which permission → Counts (ItemStands (model_of p) (beginning p) which) t.values
