-- Item values that aren't found yet, which are asked for one after another, whether a session can make them.
use Rattle.std.proofs.Common.{◌≡◌, Bool, ◌&&◌, not, true, cond, List, ℕ, sym, ap, ◌∙◌, arith}
use Rattle.std.specs.Prelude.{Some}
use lib.Dec.{ltb}
use Rattle.lanes.specs.Lanes.{lane_of, Lanes, lowest_of, highest_of, Takes}
use Rattle.lanes.proofs.Laws.{lowest-le, lowest-before, Left, left_all, left-here, left-on, left-next, left-between}
use Rattle.runs.specs.Model.{Model}
use Rattle.search.specs.Queue.{pushed, unmet}
use Rattle.search.specs.Items.{asked, Had}
use Rattle.search.specs.declared.queue.Found.{Found}
use Rattle.search.proofs.Laws.{unmet-lanes, unmet-listed}
use Rattle.search.proofs.ItemLaws.{made-last, asked-start, asked-next}

-- those of x are gone through that aren't in rest, and the ones that can be made are found
abbrev pub Asking : Model → List ℕ → Found → List ℕ → List ℕ → Found → Type 0
Asking m ready q x rest r = Left x rest × (r ≡ asked m (lane_of ready) q (lowest_of rest))

-- x has the values of the lists that aren't found yet
module _ (m : Model) (ready : List ℕ) (q : Found) (items fresh x : List ℕ) (W : Lanes m.item_value items) (M : Lanes (λ v. lane_of items v && not (lane_of q.seen v)) fresh) (e : x ≡ fresh) where
  new : Lanes (unmet m.item_value q) x
  new = rw e (unmet-lanes m.item_value q items fresh W M)

  pub asking-start : Asking m ready q x x q
  asking-start = (left_all x, asked-start m (lane_of ready) q (lowest_of x) (λ v h. sym (new.each v (omega (arith, lowest-le x))) ∙ lowest-before x v h))

  -- the next one is n; it is found if a session can make it
  pub asking-next : (rest more row : List ℕ) (n by : ℕ) (r s : Found) (b : Bool) → Asking m ready q x rest r → Takes lowest_of rest (Some n) more → Had m ready
      → Lanes (λ (v : ℕ). lane_of ready v && m.may_make v n) row → by ≡ highest_of row → ltb by 256 ≡ b → s ≡ cond b (pushed r n 0 by) r
      → Asking m ready q x more s
  asking-next rest more row n by r s b (L, i) T H R d t f =
      let here : unmet m.item_value q n ≡ true = sym (new.each n T.0) ∙ left-here x rest more n L T in (
        left-next x rest more n L T,
        f ∙ asked-next m (lane_of ready) q n (lowest_of more) by r b (d ∙ made-last m n ready row H (unmet-listed m.item_value q n here) R)
            (i ∙ ap (asked m (lane_of ready) q) (sym T.1)) here t (left-on x rest more n L T)
            (λ v j k. sym (new.each v (omega (arith, k, lowest-le more))) ∙ left-between x rest more n L T v j k),
      )
