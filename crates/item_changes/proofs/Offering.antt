-- Session values that are gone through, the last first: what each may change an item to, which stands at a place.
use Rattle.std.proofs.Common.{◌≡◌, Bool, ◌&&◌, not, true, false, cond, List, ℕ, suc, ◌+◌, ◌-◌, ◌<◌, ◌≤◌, refl, sym, ap, ◌∙◌, get_or, eqb, arith}
use Rattle.std.specs.Prelude.{Some}
use borrow.Author.Tests.{eq-eqb, ne_eqb}
use native.Mathlib.Decide.{ℕ_discrete}
use Rattle.lanes.specs.Lanes.{lane_of, some_below, highest_of, Takes}
use Rattle.lanes.proofs.Laws.{highest-here, highest-after, highest-off, lt-or-ge}
use Rattle.runs.specs.Model.{Model}
use Rattle.runs.specs.Edge.{modifies_to}
use mathlib.Core.Bool.{false≢true}
use mathlib.Core.Logic.{⊎_elim}
use Rattle.search.specs.Queue.{unmet, spread}
use Rattle.search.specs.Items.{offered}
use Rattle.search.specs.declared.queue.Found.{Found}
use Rattle.search.proofs.Laws.{skip}
use Rattle.search.proofs.ItemLaws.{offered-start}

-- the last k session values are gone through: those of the set that aren't in rest
pub record Offering (m : Model) (ready : List ℕ) (q : Found) (i : ℕ) (rest : List ℕ) (r : Found) : Type 0 where
  pub k : ℕ
  pub few : k ≤ 256
  pub made : r ≡ offered m (lane_of ready) q i k
  pub left : (v : ℕ) → v < 256 - k → lane_of rest v ≡ lane_of ready v
  pub past : (v : ℕ) → 256 - k ≤ v → v < 256 → lane_of rest v ≡ false

module _ (m : Model) (ready : List ℕ) (q : Found) (i : ℕ) where
  pub offering-start : Offering m ready q i ready q
  offering-start = record { k = 0; few = omega arith; made = offered-start m (lane_of ready) q i; left = λ v h. refl; past = λ v h l. absurd (omega arith) }

  still : (n : ℕ) → lane_of ready (255 - n) ≡ false → offered m (lane_of ready) q i (suc n) ≡ offered m (lane_of ready) q i n
  unfolding offered
  still n e = rw e refl

  -- values that aren't in the set change nothing
  over : (j k : ℕ) → j ≤ k → k ≤ 256 → ((v : ℕ) → 256 - k ≤ v → v < 256 - j → lane_of ready v ≡ false)
      → offered m (lane_of ready) q i j ≡ offered m (lane_of ready) q i k
  over j k h l none = skip (offered m (lane_of ready) q i) j k h (λ n a b. still n (none (255 - n) (omega arith) (omega arith)))

  -- one in the set
  here : (v : ℕ) → v < 256 → lane_of ready v ≡ true → (r : Found) → r ≡ offered m (lane_of ready) q i (255 - v)
      → cond (some_below (unmet m.item_value r) 256) (spread (modifies_to m v (get_or q.order i 0)) r (i + 1) v) r ≡ offered m (lane_of ready) q i (256 - v)
  unfolding offered
  here v h e r f =
      let n : 256 - v ≡ suc (255 - v) = omega arith in
      let back : 255 - (255 - v) ≡ v = omega arith in
      rw (n, back, e, f) refl

  module _ (rest : List ℕ) (r : Found) (O : Offering m ready q i rest r) where
    -- the next value is v
    pub offering-next : (more : List ℕ) (v : ℕ) (s : Found) → Takes highest_of rest (Some v) more
        → s ≡ cond (some_below (unmet m.item_value r) 256) (spread (modifies_to m v (get_or q.order i 0)) r (i + 1) v) r → Offering m ready q i more s
    offering-next more v s T e =
        record {
          k = 256 - v;
          few = omega arith;
          made = e ∙ here v T.0 (sym (O.left v before) ∙ set) r (O.made ∙ over O.k (255 - v) (omega (arith, before)) (omega arith) (λ w a b. sym (O.left w b) ∙ highest-after rest w (omega (arith, T.1)) (omega arith)));
          left = λ w h. T.2.each w (omega arith) ∙ rw (ne_eqb w v (λ z. omega arith)) (keep (lane_of rest w)) ∙ O.left w (omega (arith, before));
          past = λ w h l. T.2.each w l ∙ gone w h l (ℕ_discrete w v);
        }
      where
        set : lane_of rest v ≡ true
        set = ap (lane_of rest) T.1 ∙ highest-here rest (omega (arith, T.0, T.1))

        before : v < 256 - O.k
        before = ⊎_elim (λ a. a) (λ a. absurd (false≢true (sym (O.past v a T.0) ∙ set))) (lt-or-ge v (256 - O.k))

        keep : (b : Bool) → b && true ≡ b
        keep true = refl
        keep false = refl

        gone : (w : ℕ) → 256 - (256 - v) ≤ w → w < 256 → Dec (w ≡ v) → lane_of rest w && not (eqb w v) ≡ false
        gone w h l (yes z) = rw (eq-eqb w v z) (none (lane_of rest w))
          where
            none : (b : Bool) → b && false ≡ false
            none true = refl
            none false = refl
        gone w h l (no z) = rw (highest-after rest w (omega (arith, T.1, T.0)) l) refl

    pub offering-end : highest_of rest ≡ 256 → r ≡ offered m (lane_of ready) q i 256
    offering-end e = O.made ∙ over O.k 256 O.few (omega arith) (λ v h l. sym (O.left v l) ∙ highest-off rest (omega arith) v (omega arith))
