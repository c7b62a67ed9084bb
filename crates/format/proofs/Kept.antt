-- Laws of the fields before the first fault. In order: the fields after a fault, those of one step and of the next, those of rows.
-- Not here: without a fault they are all fields (Law).
use mathlib.Core.Path.{◌≡◌, refl, sym, ap, ◌∙◌}
use mathlib.Core.List.{List, [], ◌∷◌, ◌++◌, append_assoc, append-nil}
use mathlib.Core.Option.{Option, none, some}
use Prim.Native.Nat.{ℕ}
use lib.ListN.{length}
use Rattle.format.specs.Format.{Format, first, unless_fault, rows_judge, rows_kept}

pub unless_fault-none : (x : Option ℕ) (fs : List (ℕ × ℕ)) → x ≡ none → unless_fault x fs ≡ fs
unfolding unless_fault
unless_fault-none x fs e = rw e refl

pub unless_fault-empty : (x : Option ℕ) → unless_fault x [] ≡ []
unfolding unless_fault
unless_fault-empty none = refl
unless_fault-empty (some n) = refl

unless_fault-app : (x : Option ℕ) (fs gs : List (ℕ × ℕ)) → unless_fault x (fs ++ gs) ≡ unless_fault x fs ++ unless_fault x gs
unfolding unless_fault
unless_fault-app none fs gs = refl
unless_fault-app (some n) fs gs = refl

unless_fault-first : (x y : Option ℕ) (fs : List (ℕ × ℕ)) → unless_fault (first x y) fs ≡ unless_fault x (unless_fault y fs)
unfolding unless_fault first
unless_fault-first none y fs = refl
unless_fault-first (some n) y fs = refl

-- the fields fs, and, where they have no fault x, the fields gs
unless_fault-then : (w x : Option ℕ) (fs gs : List (ℕ × ℕ)) → unless_fault w (fs ++ unless_fault x gs) ≡ unless_fault w fs ++ unless_fault (first w x) gs
unless_fault-then w x fs gs = unless_fault-app w fs (unless_fault x gs) ∙ ap (λ (l : List (ℕ × ℕ)). unless_fault w fs ++ l) (sym (unless_fault-first w x gs))

-- no fault between them: all of both
pub unless_fault-parts : (x : Option ℕ) {fs gs ks ls : List (ℕ × ℕ)} → x ≡ none → ks ≡ fs → ls ≡ gs → ks ++ unless_fault x ls ≡ fs ++ gs
unless_fault-parts x {fs} {gs} {ks} {ls} n e d = ap (λ (l : List (ℕ × ℕ)). ks ++ l) (unless_fault-none x ls n ∙ d) ∙ ap (λ (l : List (ℕ × ℕ)). l ++ gs) e

module _ {A : Type 0} (f : List A → Format A) where
  -- the rows l, then the rows k
  pub kept-rows : (m l k : List A) → rows_kept f m (l ++ k) ≡ rows_kept f m l ++ unless_fault (rows_judge f m (length l) l) (rows_kept f (m ++ l) k)
  unfolding rows_judge rows_kept unless_fault
  kept-rows m [] k = ap (λ (x : List A). rows_kept f x k) (sym (append-nil m))
  kept-rows m (a ∷ l) k =
      let w = (f m).judge a in
      let r = m ++ a ∷ [] in
      ap (λ (x : List (ℕ × ℕ)). (f m).kept a ++ unless_fault w x)
      (kept-rows r l k ∙ ap (λ (x : List A). rows_kept f r l ++ unless_fault (rows_judge f r (length l) l) (rows_kept f x k)) (append_assoc m (a ∷ []) l))
      ∙ ap (λ (x : List (ℕ × ℕ)). (f m).kept a ++ x) (unless_fault-then w (rows_judge f r (length l) l) (rows_kept f r l) (rows_kept f (m ++ a ∷ l) k))
      ∙ sym (append_assoc ((f m).kept a) _ _)
