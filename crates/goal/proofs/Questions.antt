-- Laws of what a question asks about.
use mathlib.Core.Path.{◌≡◌, refl}
use mathlib.Core.Bool.{Bool}
use mathlib.Core.List.{List}
use Prim.Native.Nat.{ℕ, ◌<◌}
use borrow.Author.Tests.{lt-ltb, eq-eqb, ne_eqb}
use lib.ListN.{get_or}
use Rattle.lanes.specs.Lanes.{lane_of}
use Rattle.policy.specs.Rules.{values_of}
use Rattle.policy.specs.declared.Values.{Values}
use Rattle.runs.specs.Model.{Model}
use Rattle.search.specs.Items.{one_found, any_found}
use Rattle.search.specs.declared.queue.Found.{Found}
use Rattle.replay.specs.declared.question.Question.{Question}
use Rattle.user_results.specs.Found.{user_found}
use Rattle.goal.specs.Asked.{item_found, who_found}

-- the searches that a question asks for

module _ (m : Model) (items : Values) (q : Question) (helper : ℕ → Bool) where
  pub item-one : q.itemkind ≡ 0 → one_found m helper q.item (get_or items.values q.item 0) ≡ item_found m items helper q
  unfolding item_found
  item-one e = simp (eq-eqb q.itemkind 0 e)

  pub item-any : (q.itemkind ≡ 0 → ⊥) → any_found m helper (values_of items) ≡ item_found m items helper q
  unfolding item_found
  item-any d = simp (ne_eqb q.itemkind 0 d)

module _ (users : List Found) (helper : ℕ → Bool) (own : Found) (q : Question) (v : ℕ) where
  pub who-session : q.whokind ≡ 0 → lane_of own.seen v ≡ who_found users helper own q v
  unfolding who_found
  who-session e = simp (eq-eqb q.whokind 0 e)

  pub who-user : (q.whokind ≡ 0 → ⊥) → q.whokind ≡ 1 → q.who < 16 → lane_of (user_found users q.who).seen v ≡ who_found users helper own q v
  unfolding who_found
  who-user d e h = simp (ne_eqb q.whokind 0 d, eq-eqb q.whokind 1 e, lt-ltb q.who 16 h)

-- who is asked about can have what a helper can, where it is not a session or a user
pub who-ext : (users : List Found) (f g : ℕ → Bool) (own : Found) (q : Question) (v : ℕ) → f v ≡ g v → who_found users f own q v ≡ who_found users g own q v
unfolding who_found
who-ext users f g own q v e = rw e refl
