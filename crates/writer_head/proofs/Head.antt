-- Laws of storing the head: its seven counts, one after another, and the zero bits after them.
use Rattle.std.specs.Prelude.{List, ℕ, Err}
use Rattle.format.specs.Format.{pair}
use Rattle.format.specs.Steps.{Stores}
use Rattle.format.specs.declared.Stopped.{Stopped}
use Rattle.refusal.specs.declared.Refusal.{Refusal}
use Rattle.format.proofs.Store.{stores-before_zeros, stores-via}
use Rattle.policy.specs.File.{count, head_format}
use Rattle.policy.specs.Policy.{Head}

module _ (h : Head) {o o' : List ℕ} {p : ℕ} where
  -- one of the counts was refused
  pub head-stops : {stopped : Stopped Refusal}
      → Stores
      (pair (count 4 0 8) λ _. pair (count 4 0 8) λ _. pair (count 4 0 8) λ _. pair (count 5 1 16) λ _. pair (count 6 0 32) λ _. pair (count 6 0 32) λ _. count 4 1 8)
      (h.user_attrs, (h.session_attrs, (h.item_attrs, (h.users, (h.sessions, (h.items, h.permissions)))))) o o' p (Err stopped)
      → Stores head_format h o o' p (Err stopped)
  unfolding head_format
  head-stops s = stores-via _ _ _ h (stores-before_zeros _ 7 3 s)
