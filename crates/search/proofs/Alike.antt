-- Searches of items by helpers that agree below 256 are the same.
use mathlib.Core.Path.{◌≡◌, sym, ap, ◌∙◌}
use mathlib.Core.Bool.{Bool}
use mathlib.Core.List.{List}
use Prim.Native.Nat.{ℕ, ◌<◌}
use Rattle.runs.specs.Model.{Model}
use Rattle.search.specs.Items.{grow_items, ready_of, one_found, any_found}
use Rattle.search.specs.declared.queue.Found.{Found}
use Rattle.search.proofs.ItemLaws.{asked-ext, items-ext}
use Rattle.search.proofs.Turns.{ready-ext, one-is, any-is}

module _ (m : Model) (f g : ℕ → Bool) (same : (v : ℕ) → v < 256 → f v ≡ g v) where
  ready : (v : ℕ) → v < 256 → ready_of m f v ≡ ready_of m g v
  ready v h = ready-ext m f g v (same v h)

  pub one-ext : (j held : ℕ) → one_found m f j held ≡ one_found m g j held
  one-ext j held = one-is m f j held ∙ items-ext m _ _ ready _ 256 ∙ sym (one-is m g j held)

  pub any-ext : (values : List ℕ) → any_found m f values ≡ any_found m g values
  any-ext values =
      any-is m f values ∙ items-ext m _ _ ready _ 256 ∙ ap (λ (q : Found). grow_items m (ready_of m g) q 256) (asked-ext m _ _ ready _ 256) ∙ sym (any-is m g values)
