-- Laws of the first hit.
use mathlib.Core.Path.{◌≡◌, refl, sym, ap, ap₂, ◌∙◌}
use mathlib.Core.Bool.{Bool, true, false, ◌&&◌}
use mathlib.Core.List.{List}
use Prim.Native.Nat.{ℕ, zero, suc, ◌+◌, ◌≤◌, ◌<◌, min}
use native.Mathlib.Decide.{dec_lt}
use native.Mathlib.Omega.{arith}
use borrow.Author.Tests.{lt-ltb, le-ltb, ltb-true}
use lib.Dec.{ltb}
use lib.ListN.{get_or}
use Rattle.lanes.specs.Lanes.{lane_of, Lanes, first_from}
use Rattle.lanes.proofs.Laws.{first-le, first-is, first-here}
use Rattle.runs.specs.Model.{Model}
use Rattle.runs.specs.Edge.{accesses}
use Rattle.search.specs.declared.queue.Found.{Found}
use Rattle.hits.specs.Hits.{hit_value, hit_place}

first-ext : (f g : ℕ → Bool) (k n : ℕ) → ((v : ℕ) → v < k + n → f v ≡ g v) → first_from f k n ≡ first_from g k n
unfolding first_from
first-ext f g k zero h = refl
first-ext f g k (suc n) h = rw (h k (omega arith), first-ext f g (suc k) n (λ v l. h v (omega arith))) refl

-- the first session value among some that has the permission on an item with value o; 256 where there is none
abbrev pub hit_on : Model → ℕ → (ℕ → Bool) → ℕ → ℕ
hit_on m permission among o = first_from (λ v. among v && accesses m permission v o) 0 256

pub hit_few : (m : Model) (permission : ℕ) (among : ℕ → Bool) (o : ℕ) → hit_on m permission among o ≤ 256
hit_few m permission among o = first-le (λ v. among v && accesses m permission v o) 0 256

module _ (m : Model) (permission : ℕ) (q : Found) where
  module _ (who : ℕ → Bool) where
    -- there is a hit at place i
    abbrev pub hit : ℕ → Bool
    hit i = ltb i q.len && ltb (hit_value m permission who q i) 256

    hit-is : (r : ℕ) → r ≤ 256 → (r < 256 → hit r ≡ true) → ((k : ℕ) → k < r → hit k ≡ false) → r ≡ hit_place m permission who q
    unfolding hit_place
    hit-is r b here before = first-is hit 0 256 r (omega arith) b here (λ v p l. before v l)

    no_hit : (k : ℕ) → hit_value m permission who q k ≡ 256 → hit k ≡ false
    no_hit k e = ap (λ (n : ℕ). ltb k q.len && ltb n 256) e ∙ neither (ltb k q.len)
      where
        neither : (b : Bool) → b && false ≡ false
        neither true = refl
        neither false = refl

    pub hit-inside : hit_place m permission who q < 256 → hit_place m permission who q < q.len
    unfolding hit_place
    hit-inside h = ltb-true _ _ (left (ltb (first_from hit 0 256) q.len) _ (first-here hit 0 256 h))
      where
        left : (a b : Bool) → a && b ≡ true → a ≡ true
        left true b e = refl
        left false b e = e

  -- `own` are the values in the lists, `both` those among them that are asked about; n places are asked, and those below i have no hit
  module _ (who own both : List ℕ) (S : Lanes m.session_value own) (B : Lanes (λ (v : ℕ). lane_of who v && lane_of own v) both) where
    hit-on : (k : ℕ) → hit_on m permission (lane_of both) (get_or q.order k 0) ≡ hit_value m permission (lane_of who) q k
    unfolding hit_value
    hit-on k =
        first-ext _ _ 0 256
        (λ v h.
        ap (λ (b : Bool). b && accesses m permission v (get_or q.order k 0)) (B.each v h ∙ ap (λ (b : Bool). lane_of who v && b) (S.each v h))
        ∙ apart (lane_of who v) (m.session_value v) (accesses m permission v (get_or q.order k 0)))
      where
        apart : (w s a : Bool) → (w && s) && a ≡ w && (s && a)
        apart true s a = refl
        apart false s a = refl

    module _ (n i : ℕ) (few : n ≡ min q.len 256) (none : (k : ℕ) → k < i → hit_on m permission (lane_of both) (get_or q.order k 0) ≡ 256) where
      before : (k : ℕ) → k < i → hit (lane_of who) k ≡ false
      before k h = no_hit (lane_of who) k (sym (hit-on k) ∙ none k h)

      pub hit-here : (value : ℕ) → i < n → value < 256 → value ≡ hit_on m permission (lane_of both) (get_or q.order i 0)
          → (i ≡ hit_place m permission (lane_of who) q) × (i < 256) × (value ≡ hit_value m permission (lane_of who) q i)
      hit-here value h l e =
          let is = e ∙ hit-on i in (
            hit-is (lane_of who) i (omega arith) (λ _. ap₂ ◌&&◌ (lt-ltb i q.len (omega arith)) (ap (λ (x : ℕ). ltb x 256) (sym is) ∙ lt-ltb value 256 l)) before,
            omega arith,
            is,
          )

      pub hit-nowhere : n ≤ i → hit_place m permission (lane_of who) q ≡ 256
      hit-nowhere h =
          sym
          (hit-is (lane_of who) 256 (omega arith) (λ l. absurd (omega arith))
          (λ k l.
          elim (dec_lt k i) [
            | yes a ↦ before k a
            | no a ↦ ap (λ (b : Bool). b && ltb (hit_value m permission (lane_of who) q k) 256) (le-ltb k q.len (omega arith))
          ]))

  -- who is asked about counts below 256 only
  module _ (f g : ℕ → Bool) (same : (v : ℕ) → v < 256 → f v ≡ g v) where
    pub hit-value-ext : (i : ℕ) → hit_value m permission f q i ≡ hit_value m permission g q i
    unfolding hit_value
    hit-value-ext i = first-ext _ _ 0 256 (λ v h. ap (λ (b : Bool). b && (m.session_value v && accesses m permission v (get_or q.order i 0))) (same v h))

    pub hit-place-ext : hit_place m permission f q ≡ hit_place m permission g q
    unfolding hit_place
    hit-place-ext = first-ext _ _ 0 256 (λ i h. ap (λ (n : ℕ). ltb i q.len && ltb n 256) (hit-value-ext i))
