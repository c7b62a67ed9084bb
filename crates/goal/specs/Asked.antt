-- What a question asks about, in terms of the searches, and the pen before the first row. The analyser's own vocabulary: nothing here has to be
-- believed.
-- Assumes nothing.
use Rattle.std.specs.Prelude.{◌≡◌, Bool, false, cond, List, ℕ, ◌+◌, ◌%◌, ◌<◌, ltb, eqb, length, get_or}
use Rattle.lanes.specs.Lanes.{lane_of}
use Rattle.policy.specs.Policy.{Session}
use Rattle.policy.specs.Rules.{values_of, session_at}
use Rattle.policy.specs.declared.Sessions.{Sessions}
use Rattle.policy.specs.declared.Values.{Values}
use Rattle.runs.specs.Model.{Model}
use Rattle.search.specs.Queue.{nothing}
use Rattle.search.specs.Sessions.{own_found}
use Rattle.search.specs.Items.{one_found, any_found}
use Rattle.search.specs.declared.queue.Found.{Found}
use Rattle.session_rows.specs.declared.Pen.{Pen}
use Rattle.leak.specs.declared.Actor.{Actor}
use Rattle.leak.specs.declared.Actor.TheVariants as Acting
use Rattle.leak.specs.declared.Aim.{Aim}
use Rattle.replay.specs.declared.question.Question.{Question}
use Rattle.user_results.specs.Found.{user_found}

-- the search of the item that is asked about, or of any; `items` are the starting items
unfoldable pub item_found : Model → Values → (ℕ → Bool) → Question → Found
item_found m items helper q = cond (eqb q.itemkind 0) (one_found m helper q.item (get_or items.values q.item 0)) (any_found m helper (values_of items))

-- the search of the session that is asked about, or none; `starting` are the starting sessions
unfoldable pub session_found : Model → Sessions → Question → Found
session_found m starting q = cond (eqb q.whokind 0) (own_found m (session_at starting q.who).user (session_at starting q.who).value) nothing

-- one that is asked about can have value v
unfoldable pub who_found : List Found → (ℕ → Bool) → Found → Question → ℕ → Bool
who_found users helper own q v =
    cond (eqb q.whokind 0) (lane_of own.seen v)
    (cond (eqb q.whokind 1) (cond (ltb q.who 16) (lane_of (user_found users q.who).seen v) false) (helper v))

-- who is to act: a starting session, a session of a user, or any session
abbrev pub actor_for : Sessions → Question → Actor
actor_for starting q = cond (eqb q.whokind 0) (Acting.Session q.who (session_at starting q.who).user) (cond (eqb q.whokind 1) (Acting.User q.who) Acting.Anyone)

-- what the leak aims at
unfoldable pub aim_of : Sessions → Values → Question → ℕ → Aim
aim_of starting items q value = record { actor = actor_for starting q; value = value % 256; items = items.count; permission = q.permission }

-- the pen before the first row: the starting sessions stand open
pub record PenReady (sessions : List Session) (p : Pen) : Type 0 where
  pub at : p.at ≡ 0
  pub next : p.next ≡ length sessions
  pub sized : (length p.number ≡ 256) × (length p.owner ≡ 256)
  pub standing : (v j : ℕ) → v < 256 → get_or p.number v 0 ≡ j + 1
      → (j < length sessions) × (get_or sessions j record { user = 0; value = 0 } ≡ record { user = get_or p.owner v 0; value = v })
