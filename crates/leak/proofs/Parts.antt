-- Laws of the item of a leak: one more step on its way, and the next number after some.
use mathlib.Core.Path.{◌≡◌, refl, sym, ap, ◌∙◌}
use mathlib.Core.List.{List, [], ◌∷◌}
use mathlib.Core.Bool.{cond}
use Prim.Native.Nat.{ℕ, zero, suc, ◌+◌, ◌-◌, ◌≤◌}
use native.Mathlib.Numerals.{add-one}
use native.Mathlib.Omega.{arith}
use lib.Dec.{leb, eqb}
use lib.ListN.{get_or}
use Rattle.search.specs.Searched.{value_at, via_at}
use Rattle.search.specs.Path.{way_at}
use Rattle.search.specs.declared.queue.Found.{Found}
use Rattle.session_rows.specs.Writing.{Writing, row_of}
use Rattle.session_rows.specs.Way.{helped}
use Rattle.leak.specs.Leak.{linked, item_to}
use Rattle.leak.specs.Turn.{item_turn}
use Rattle.session_rows.proofs.Laws.{same_next, wrote-next}
use Rattle.session_rows.proofs.Brought.{pick_next, helped-next}

module _ (room : ℕ) (users : List Found) (by : List ℕ) where
  linked-next : (kind v t o : ℕ) (w : Writing) → (linked room users by kind v t o w).next ≤ w.next + 1
  unfolding linked
  linked-next kind v t o w =
      omega (arith, wrote-next room (row_of kind (get_or (helped room users by v w).number v 0 - 1) t o ∷ []) (helped room users by v w), helped-next room users by v w)

  module _ (q : Found) (pos t : ℕ) where
    turn-next : (j : ℕ) (w : Writing) → (item_turn room users by q pos t j w).next ≤ w.next + 1
    unfolding item_turn
    turn-next j w =
        let p = way_at q pos j in
        pick_next (eqb j 0) (cond (leb 256 (via_at q p)) w (linked room users by 4 (via_at q p) t (value_at q p) w)) (linked room users by 5 (via_at q p) t (value_at q p) w) (w.next + 1)
        (pick_next (leb 256 (via_at q p)) w (linked room users by 4 (via_at q p) t (value_at q p) w) (w.next + 1) (omega arith) (linked-next 4 (via_at q p) t (value_at q p) w))
        (linked-next 5 (via_at q p) t (value_at q p) w)

    pub item-none : (w : Writing) → w ≡ item_to room users by q pos t 0 w
    unfolding item_to
    item-none w = refl

    item-more : (j : ℕ) (w : Writing) → item_to room users by q pos t (j + 1) w ≡ item_turn room users by q pos t j (item_to room users by q pos t j w)
    unfolding item_to item_turn
    item-more j w = rw add-one refl

    item-next : (j : ℕ) (w : Writing) → (item_to room users by q pos t j w).next ≤ w.next + j
    item-next zero w = omega (arith, same_next (item-none w))
    item-next (suc j) w =
        let e : suc j ≡ j + 1 = omega arith in
        rw e (rw (item-more j w) (omega (arith, turn-next j (item_to room users by q pos t j w), item-next j w)))

    -- one more step, and the next number after some
    pub item-goes : (j : ℕ) (w r x : Writing) (long : ℕ) → long ≡ room → r ≡ item_to room users by q pos t j w → x ≡ item_turn long users by q pos t j r
        → x ≡ item_to room users by q pos t (j + 1) w
    item-goes j w r x long d e f =
        f ∙ ap (λ (n : ℕ). item_turn n users by q pos t j r) d ∙ ap (item_turn room users by q pos t j) e ∙ sym (item-more j w)

    pub item-few : (j : ℕ) (w r : Writing) → r ≡ item_to room users by q pos t j w → r.next ≤ w.next + j
    item-few j w r e = omega (arith, same_next e, item-next j w)
