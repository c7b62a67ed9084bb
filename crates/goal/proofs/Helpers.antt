-- A search of items asks of helpers below 256 only, and its depths are below 256. In order: the item that is asked about; depths.
use mathlib.Core.Path.{◌≡◌, sym, ◌∙◌, subst}
use mathlib.Core.Bool.{Bool}
use Prim.Native.Nat.{ℕ, ◌<◌}
use native.Mathlib.Decide.{ℕ_discrete}
use native.Mathlib.Omega.{arith}
use lib.ListN.{get_or}
use Rattle.policy.specs.Rules.{values_of}
use Rattle.policy.specs.declared.Values.{Values}
use Rattle.policy.proofs.Laws.{values_length}
use Rattle.runs.specs.Model.{Model}
use Rattle.allowed.proofs.Laws.{value-at}
use Rattle.search.specs.Searched.{depth_at, Searched}
use Rattle.search.specs.declared.queue.Found.{Found}
use Rattle.search.proofs.Alike.{one-ext, any-ext}
use Rattle.search.proofs.Theorems.{one-item-is-searched, any-item-is-searched}
use Rattle.replay.specs.declared.question.Question.{Question}
use Rattle.goal.specs.Asked.{item_found}
use Rattle.goal.proofs.Questions.{item-one, item-any}

module _ (m : Model) (items : Values) (q : Question) where
  pub item-ext : (f g : ℕ → Bool) → ((v : ℕ) → v < 256 → f v ≡ g v) → item_found m items f q ≡ item_found m items g q
  item-ext f g same = go (ℕ_discrete q.itemkind 0)
    where
      go : Dec (q.itemkind ≡ 0) → item_found m items f q ≡ item_found m items g q
      go (yes e) = sym (item-one m items q f e) ∙ one-ext m f g same _ _ ∙ item-one m items q g e
      go (no d) = sym (item-any m items q f d) ∙ any-ext m f g same _ ∙ item-any m items q g d

  -- depths are below 256
  pub item-shallow : (helper : ℕ → Bool) (i : ℕ) → q.item < 256 → items.count < 256 → ((k : ℕ) → get_or items.values k 0 < 256)
      → i < (item_found m items helper q).len → depth_at (item_found m items helper q) i < 256
  item-shallow helper i hq hc byte h = go (ℕ_discrete q.itemkind 0)
    where
      small : (S : ℕ → ℕ → Type 0) (E : ℕ → ℕ → ℕ → Type 0) (x : Found) → Searched S E x → x ≡ item_found m items helper q → depth_at (item_found m items helper q) i < 256
      small S E x s e =
          subst (λ (y : Found). depth_at y i < 256) e
          (let l : i < x.len = subst (λ (y : Found). i < y.len) (sym e) h in omega (arith, s.good.shallow i l, s.good.placed.few))

      go : Dec (q.itemkind ≡ 0) → depth_at (item_found m items helper q) i < 256
      go (yes e) = small _ _ _ (one-item-is-searched m helper q.item (get_or items.values q.item 0) (byte q.item) hq) (item-one m items q helper e)
      go (no d) =
          small _ _ _
          (any-item-is-searched m helper (values_of items) (omega (arith, values_length items))
          (λ j l. let b : j < items.count = omega (arith, values_length items) in omega (arith, value-at items j b, byte j)))
          (item-any m items q helper d)

  pub found-shallow : (helper : ℕ → Bool) (x : Found) → q.item < 256 → items.count < 256 → ((k : ℕ) → get_or items.values k 0 < 256) → x ≡ item_found m items helper q
      → (i : ℕ) → i < x.len → depth_at x i < 256
  found-shallow helper x hq hc byte e i h =
      subst (λ (y : Found). depth_at y i < 256) (sym e) (item-shallow helper i hq hc byte (subst (λ (y : Found). i < y.len) e h))
