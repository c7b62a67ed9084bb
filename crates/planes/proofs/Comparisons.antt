-- Laws of comparisons of sets in lanes. In order: by the operator; operands that are the same in every word.
use mathlib.Core.Path.{◌≡◌, refl}
use mathlib.Core.Bool.{not, ◌&&◌}
use Prim.Native.Nat.{ℕ, ◌+◌, ◌*◌, ◌<◌}
use Rattle.bits.specs.Set.{in_set, subset_of, proper_of}
use Rattle.formulas.specs.Parts.{compared_by}
use Rattle.planes.specs.Word.{number_in, compared_in}
use Rattle.planes.specs.declared.operand.Operand.{Operand}

module _ (op : ℕ) (x y : Operand) (v : ℕ) where
  pub compared-member : op ≡ 8 → compared_in op x y v ≡ in_set y.size (number_in y v) (number_in x v)
  unfolding compared_in compared_by
  compared-member e = simp e

  pub compared-subset : op ≡ 9 → compared_in op x y v ≡ subset_of x.size (number_in x v) y.size (number_in y v)
  unfolding compared_in compared_by
  compared-subset e = simp e

  pub compared-proper : op ≡ 10 → compared_in op x y v ≡ subset_of x.size (number_in x v) y.size (number_in y v) && not (subset_of y.size (number_in y v) x.size (number_in x v))
  unfolding compared_in compared_by proper_of
  compared-proper e = simp e

-- operands that are the same in every word compare the same in every word
pub compared-alike : (op : ℕ) (x y : Operand) → ((w j : ℕ) → j < 64 → number_in x (64 * w + j) ≡ number_in x j) → ((w j : ℕ) → j < 64 → number_in y (64 * w + j) ≡ number_in y j)
    → (w u j : ℕ) → j < 64 → compared_in op x y (64 * w + j) ≡ compared_in op x y (64 * u + j)
unfolding compared_in
compared-alike op x y X Y w u j h = rw (X w j h, Y w j h, X u j h, Y u j h) refl
