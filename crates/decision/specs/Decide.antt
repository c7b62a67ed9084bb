-- What deciding a question comes to, in terms of the searches. Private vocabulary: nothing here has to be believed.
-- Assumes nothing.
use Rattle.std.specs.Prelude.{◌≡◌, List, [], ℕ, ◌≤◌, ◌<◌, length, take, drop, MatchOption}
use Rattle.policy.specs.Rules.{policy_of, sessions_of}
use Rattle.policy.specs.declared.Rules.{Rules}
use Rattle.policy.specs.declared.Sessions.{Sessions}
use Rattle.policy.specs.declared.Values.{Values}
use Rattle.allowed.specs.Allowed.{model_of}
use Rattle.search.specs.declared.queue.Found.{Found}
use Rattle.session_rows.specs.Writing.{writing_of}
use Rattle.leak.specs.Leak.{leak_written}
use Rattle.session_rows.specs.declared.Pen.{Pen}
use Rattle.replay.specs.declared.question.Question.{Question}
use Rattle.user_results.specs.Found.{any_has, Names, found_pairs}
use Rattle.hits.specs.Hits.{hit_value, hit_place}
use Rattle.goal.specs.Asked.{item_found, session_found, who_found, aim_of, PenReady}
use Rattle.decision.specs.declared.Decision.{Decision}

-- the rows of a leak as they were written, with the pen and the names that they were written by: of the value at a place of the search `found`, by a session with
-- value `value`; `own` is the search of the session that is asked about
pub record LeakLeftBy (users : List Found) (starting : Sessions) (items : Values) (q : Question) (found own : Found) (place value : ℕ) (before after : List ℕ) (n : ℕ) : Type 0 where
  pub by : List ℕ
  pub pen : Pen
  pub names : Names users by
  pub ready : PenReady (sessions_of starting) pen
  pub front : take n after ≡ (leak_written (length before) users by found place own (aim_of starting items q value) (writing_of pen [])).rows
  pub rest : drop n after ≡ drop n before
  pub inside : n ≤ length after
  pub long : length after ≡ length before

module _ (r : Rules) (users : List Found) (q : Question) where
  -- the search of the item that is asked about, or of any
  abbrev pub item_search : Found
  item_search = item_found (model_of (policy_of r)) r.items (any_has users) q

  -- the search of the session that is asked about, or none
  abbrev pub own_search : Found
  own_search = session_found (model_of (policy_of r)) r.sessions q

  -- where the first leak is
  unfoldable pub leak_place : ℕ
  leak_place = hit_place (model_of (policy_of r)) q.permission (who_found users (any_has users) own_search q) item_search

  unfoldable pub leak_value : ℕ
  leak_value =
      hit_value (model_of (policy_of r)) q.permission (who_found users (any_has users) own_search q) item_search leak_place

  -- the rows of the first leak
  abbrev pub LeakLeft : List ℕ → List ℕ → ℕ → Type 0
  LeakLeft = LeakLeftBy users r.sessions r.items q item_search own_search leak_place leak_value

  -- counts, and whether there is a leak: its rows, or rows that stay as they were
  pub record DecidedBy (before after : List ℕ) (d : Decision) : Type 0 where
    pub pairs : d.pairs ≡ found_pairs users 16
    pub values : d.values ≡ item_search.len
    pub leak : MatchOption d.leak ((256 ≤ leak_place) × (after ≡ before)) (λ n. (leak_place < 256) × LeakLeft before after n)
