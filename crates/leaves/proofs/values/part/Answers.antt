-- `leaves::values::part` meets its contract: the lanes inside and outside, one row stored after the other.
use mathlib.Core.Path.{◌≡◌, refl, ap, ◌∙◌}
use mathlib.Core.Bool.{Bool, not, ◌&&◌}
use Prim.Native.Nat.{ℕ, ◌+◌, ◌<◌}
use Rattle.lanes.specs.Lanes.{lane_of}
use Rattle.bitsets.specs.Rows.{bit_at}
use Rattle.leaves.proofs.Parts.{put-put, put_as}
use Rattle.leaves.proofs.values.part.Goals as goal

pub returns : goal.returns
returns c =
    let w = c.store-2 in
    let u = c.store in
    let a = c.args in
    let inside : (v : ℕ) → v < 256 → lane_of c.and-inside.result v ≡ bit_at a.hot.now a.z v && lane_of a.p v =
    λ v h. c.and-inside.ensures.each v h ∙ ap (λ (b : Bool). b && lane_of a.p v) (c.load-r.ensures.each v h) in
    let outside : (v : ℕ) → v < 256 → lane_of c.minus-outside.result v ≡ bit_at a.hot.now a.z v && not (lane_of a.p v) =
    λ v h. c.minus-outside.ensures.each v h ∙ ap (λ (b : Bool). b && not (lane_of a.p v)) (c.load-r.ensures.each v h) in record { rows = put_as a.z _ _ _ _ _ (put-put a.z (a.n + a.z) _ _ _ _ _ (put_as (a.n + a.z) _ _ _ _ _ u.ensures.rows inside (λ k v h. refl)) w.ensures.rows) outside (λ k v h. refl); hot_len_unchanged = w.ensures.area_len_unchanged ∙ u.ensures.area_len_unchanged }
