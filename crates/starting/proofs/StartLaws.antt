-- Laws of starting. In order: cells over the front of others; the cells of the starting sessions and items, how many and place by place; how many
-- starting sessions there are; list numbers do not matter.
use mathlib.Core.Path.{◌≡◌, refl, sym, ap, ◌∙◌}
use mathlib.Core.List.{List, ◌++◌}
use Prim.Native.Nat.{ℕ, ◌≤◌, ◌<◌}
use native.Mathlib.Omega.{arith}
use lib.ListN.{length, drop, get_or, length-append, length-drop, length-map}
use Rattle.std.proofs.lemmas.List.{ext_get_or}
use Rattle.bits.proofs.Packed.{get_or-tab}
use Rattle.starting.proofs.Beginning.{map_at}
use Rattle.policy.specs.Policy.{Session, Policy}
use Rattle.policy.specs.Rules.{session_at, sessions_of, values_of}
use Rattle.policy.specs.declared.Sessions.{Sessions}
use Rattle.policy.specs.declared.Values.{Values}
use Rattle.policy.proofs.Laws.{values_length, sessions-at, sessions-length}
use Rattle.rules.specs.Answers.{rules}
use Rattle.allowed.specs.Claims.{unlisted_policy}
use Rattle.cells.specs.Cell.{open_cell, item_cell}
use Rattle.starting.specs.Start.{over, session_cells, item_cells, started}

-- cells over the front of others

-- as many cells as there were
pub over-length : (l cells : List ℕ) → length l ≤ length cells → length (over l cells) ≡ length cells
unfolding over
over-length l cells h = simp (length-append, length-drop) (omega arith)

-- the front is written, and the rest stays
pub over_front : (l front cells : List ℕ) (n : ℕ) → length l ≡ n → length front ≡ n → ((k : ℕ) → k < n → get_or front k 0 ≡ get_or l k 0)
    → front ++ drop n cells ≡ over l cells
unfolding over
over_front l front cells n e f h =
    let same : front ≡ l = ext_get_or 0 front l (f ∙ sym e) (λ k b. h k (omega arith)) in
    rw (same, e) refl

-- the cells of the starting sessions and items

pub session-cells-long : (l : List Session) → length (session_cells l) ≡ length l
unfolding session_cells
session-cells-long l = length-map l _

pub session_cells_length : (t : Sessions) → length (session_cells (sessions_of t)) ≡ t.count
session_cells_length t = session-cells-long (sessions_of t) ∙ sessions-length t

pub session_cells_at : (t : Sessions) (k : ℕ) → k < t.count → get_or (session_cells (sessions_of t)) k 0 ≡ open_cell (session_at t k).user (session_at t k).value
unfolding session_cells
session_cells_at t k h =
    let none : Session = record { user = 0; value = 0 } in
    map_at (λ (x : Session). open_cell x.user x.value) (sessions_of t) none 0 k (omega (arith, sessions-length t))
    ∙ ap (λ (x : Session). open_cell x.user x.value) (sessions-at t k none h)

pub item-cells-long : (l : List ℕ) → length (item_cells l) ≡ length l
unfolding item_cells
item-cells-long l = length-map l item_cell

pub item_cells_length : (t : Values) → length (item_cells (values_of t)) ≡ t.count
item_cells_length t = item-cells-long (values_of t) ∙ values_length t

pub item_cells_at : (t : Values) (k : ℕ) → k < t.count → get_or (item_cells (values_of t)) k 0 ≡ item_cell (get_or t.values k 0)
unfolding item_cells values_of
item_cells_at t k h =
    let at : ℕ → ℕ = λ j. get_or t.values j 0 in
    map_at item_cell (values_of t) 0 0 k (omega (arith, values_length t)) ∙ ap item_cell (get_or-tab at 0 t.count k 0 h ∙ ap at (omega arith))

-- how many starting sessions there are
pub sessions_length : (t : Sessions) → length (sessions_of t) ≡ t.count
sessions_length t = sessions-length t

-- a start reads no attribute
pub started-unlisted : (p : Policy) (sessions items : List ℕ) → started (rules (unlisted_policy p)) sessions items ≡ started (rules p) sessions items
unfolding started
started-unlisted p sessions items = refl
