-- Laws of rows that are filled in one after another. In order: which rows; a row stored; none; one more; rows that are the same.
use mathlib.Core.Path.{◌≡◌, sym, ap, ◌∙◌}
use mathlib.Core.Bool.{Bool, cond}
use mathlib.Core.List.{List}
use Prim.Native.Nat.{ℕ, ◌+◌, ◌-◌, ◌≤◌, ◌<◌}
use native.Mathlib.Decide.{ℕ_discrete, dec_lt}
use native.Mathlib.Omega.{arith}
use borrow.Author.Tests.{lt-ltb, le-ltb, le-leb, lt-leb, eq-eqb, ne_eqb}
use lib.Dec.{eqb}
use Rattle.lanes.specs.Lanes.{lane_of, Lanes}
use Rattle.bitsets.specs.Rows.{bit_at, Rows, put, put_from}

module _ (base : ℕ) (g A : ℕ → ℕ → Bool) where
  from_in : (n a v : ℕ) → base ≤ a → a < base + n → put_from base n g A a v ≡ g (a - base) v
  unfolding put_from
  from_in n a v h l = simp (le-leb base a h, lt-ltb a (base + n) l)

  from-below : (n a v : ℕ) → a < base → put_from base n g A a v ≡ A a v
  unfolding put_from
  from-below n a v h = simp (lt-leb base a h)

  from_past : (n a v : ℕ) → base + n ≤ a → put_from base n g A a v ≡ A a v
  unfolding put_from
  from_past n a v h = simp (le-leb base a (omega arith), le-ltb a (base + n) h)

-- the first n rows are those of g
pub from-rows : (base n : ℕ) (g A : ℕ → ℕ → Bool) (t : List ℕ) → Rows (put_from base n g A) t → (j v : ℕ) → j < n → v < 256 → bit_at t (base + j) v ≡ g j v
from-rows base n g A t R j v l h =
    R.each (base + j) v h ∙ from_in base g A n (base + j) v (omega arith) (omega arith) ∙ ap (λ (i : ℕ). g i v) (omega arith)

-- a row that is stored, by its bits
pub put-lanes : (k : ℕ) (f : ℕ → Bool) (A : ℕ → ℕ → Bool) (x t : List ℕ) → Lanes f x → Rows (put k (lane_of x) A) t → Rows (put k f A) t
unfolding put
put-lanes k f A x t X R = record { each = λ a v l. R.each a v l ∙ ap (λ (b : Bool). cond (eqb a k) b (A a v)) (X.each v l) }

pub rows_start : (base : ℕ) (g : ℕ → ℕ → Bool) (t : List ℕ) → Rows (put_from base 0 g (bit_at t)) t
rows_start base g t = record { each = λ a v h. go a v (dec_lt a base) }
  where
    go : (a v : ℕ) → Dec (a < base) → bit_at t a v ≡ put_from base 0 g (bit_at t) a v
    go a v (yes l) = sym (from-below base g (bit_at t) 0 a v l)
    go a v (no l) = sym (from_past base g (bit_at t) 0 a v (omega arith))

pub rows_more : (base n k : ℕ) (f : ℕ → Bool) (g A : ℕ → ℕ → Bool) (t u : List ℕ) → Rows (put_from base n g A) t → k ≡ base + n → Rows (put k f (bit_at t)) u
    → ((v : ℕ) → v < 256 → f v ≡ g n v) → Rows (put_from base (n + 1) g A) u
unfolding put
rows_more base n k f g A t u R e U same = record { each = λ a v h. go a v h (ℕ_discrete a k) (dec_lt a base) (dec_lt a (base + n)) }
  where
    go : (a v : ℕ) → v < 256 → Dec (a ≡ k) → Dec (a < base) → Dec (a < base + n) → bit_at u a v ≡ put_from base (n + 1) g A a v
    go a v h (yes z) p q =
        U.each a v h ∙ ap (λ (b : Bool). cond b (f v) (bit_at t a v)) (eq-eqb a k z) ∙ same v h
        ∙ sym (from_in base g A (n + 1) a v (omega arith) (omega arith) ∙ ap (λ (i : ℕ). g i v) (omega arith))
    go a v h (no z) (yes p) q =
        U.each a v h ∙ ap (λ (b : Bool). cond b (f v) (bit_at t a v)) (ne_eqb a k z) ∙ R.each a v h
        ∙ from-below base g A n a v p ∙ sym (from-below base g A (n + 1) a v p)
    go a v h (no z) (no p) (yes q) =
        U.each a v h ∙ ap (λ (b : Bool). cond b (f v) (bit_at t a v)) (ne_eqb a k z) ∙ R.each a v h
        ∙ from_in base g A n a v (omega arith) q ∙ sym (from_in base g A (n + 1) a v (omega arith) (omega arith))
    go a v h (no z) (no p) (no q) =
        U.each a v h ∙ ap (λ (b : Bool). cond b (f v) (bit_at t a v)) (ne_eqb a k z) ∙ R.each a v h
        ∙ from_past base g A n a v (omega arith) ∙ sym (from_past base g A (n + 1) a v (omega arith))

-- rows are known by their bits
pub rows_as : (base n : ℕ) (g h A : ℕ → ℕ → Bool) (t : List ℕ) → Rows (put_from base n g A) t → ((i v : ℕ) → i < n → v < 256 → g i v ≡ h i v) → Rows (put_from base n h A) t
rows_as base n g h A t R same = record { each = λ a v l. R.each a v l ∙ go a v l (dec_lt a base) (dec_lt a (base + n)) }
  where
    go : (a v : ℕ) → v < 256 → Dec (a < base) → Dec (a < base + n) → put_from base n g A a v ≡ put_from base n h A a v
    go a v l (yes p) q = from-below base g A n a v p ∙ sym (from-below base h A n a v p)
    go a v l (no p) (yes q) =
        from_in base g A n a v (omega arith) q ∙ same (a - base) v (omega arith) l ∙ sym (from_in base h A n a v (omega arith) q)
    go a v l (no p) (no q) = from_past base g A n a v (omega arith) ∙ sym (from_past base h A n a v (omega arith))
