-- Laws of rows, for callers. In order: rows of an area, one row put, rows put from a place on.
-- Not here: the words of a row (Words).
use mathlib.Core.Path.{◌≡◌, refl, sym, ap, ◌∙◌}
use mathlib.Core.Bool.{Bool}
use mathlib.Core.List.{List}
use Prim.Native.Nat.{ℕ, ◌+◌, ◌-◌, ◌≤◌, ◌<◌}
use native.Mathlib.Decide.{dec_lt, ℕ_discrete}
use native.Mathlib.Omega.{arith}
use borrow.Author.Tests.{eq-eqb, ne_eqb, lt-ltb, le-ltb, le-leb, lt-leb}
use Rattle.bitsets.specs.Rows.{bit_at, Rows, put, put_from}

-- the rows of A are those of B
pub rows_as : (A B : ℕ → ℕ → Bool) (t : List ℕ) → Rows A t → ((a v : ℕ) → v < 256 → A a v ≡ B a v) → Rows B t
rows_as A B t R e = record { each = λ a v h. R.each a v h ∙ e a v h }

-- an area has its own rows
pub rows-own : (t : List ℕ) → Rows (bit_at t) t
rows-own t = record { each = λ a v h. refl }

module _ (k : ℕ) (f : ℕ → Bool) (A : ℕ → ℕ → Bool) where
  pub put_same : (v : ℕ) → put k f A k v ≡ f v
  unfolding put
  put_same v = simp (eq-eqb k k refl)

  pub put_other : (a v : ℕ) → (a ≡ k → ⊥) → put k f A a v ≡ A a v
  unfolding put
  put_other a v n = simp (ne_eqb a k n)

-- row k and the rows before are alike at v, so they are with row k put
pub put-alike : (k : ℕ) (f g : ℕ → Bool) (A B : ℕ → ℕ → Bool) (a v : ℕ) → f v ≡ g v → A a v ≡ B a v → put k f A a v ≡ put k g B a v
unfolding put
put-alike k f g A B a v p q = rw (p, q) refl

module _ (base n : ℕ) (g A : ℕ → ℕ → Bool) (a v : ℕ) where
  pub put_from-inside : base ≤ a → a < base + n → put_from base n g A a v ≡ g (a - base) v
  unfolding put_from
  put_from-inside h l = simp (le-leb base a h, lt-ltb a (base + n) l)

  pub put_from-before : a < base → put_from base n g A a v ≡ A a v
  unfolding put_from
  put_from-before h = simp (lt-leb base a h)

  pub put_from-after : base + n ≤ a → put_from base n g A a v ≡ A a v
  unfolding put_from
  put_from-after h = simp (le-leb base a (omega arith), le-ltb a (base + n) h)

pub put_from-none : (base : ℕ) (g A : ℕ → ℕ → Bool) (a v : ℕ) → put_from base 0 g A a v ≡ A a v
put_from-none base g A a v = go (dec_lt a base)
  where
    go : Dec (a < base) → put_from base 0 g A a v ≡ A a v
    go (yes h) = put_from-before base 0 g A a v h
    go (no h) = put_from-after base 0 g A a v (omega arith)

-- one row more
pub put_from-more : (base n : ℕ) (g A : ℕ → ℕ → Bool) (a v : ℕ) → put_from base (n + 1) g A a v ≡ put (base + n) (g n) (put_from base n g A) a v
put_from-more base n g A a v = go (ℕ_discrete a (base + n)) (dec_lt a base) (dec_lt a (base + n))
  where
    before : (a ≡ base + n → ⊥) → put_from base n g A a v ≡ put (base + n) (g n) (put_from base n g A) a v
    before d = sym (put_other (base + n) (g n) (put_from base n g A) a v d)

    go : Dec (a ≡ base + n) → Dec (a < base) → Dec (a < base + n) → put_from base (n + 1) g A a v ≡ put (base + n) (g n) (put_from base n g A) a v
    go (yes e) _ _ =
        put_from-inside base (n + 1) g A a v (omega arith) (omega arith) ∙ ap (λ (k : ℕ). g k v) (omega arith)
        ∙ sym (put_same (base + n) (g n) (put_from base n g A) v) ∙ ap (λ (k : ℕ). put (base + n) (g n) (put_from base n g A) k v) (sym e)
    go (no d) (yes l) _ = put_from-before base (n + 1) g A a v l ∙ sym (put_from-before base n g A a v l) ∙ before d
    go (no d) (no m) (yes l) =
        put_from-inside base (n + 1) g A a v (omega arith) (omega arith) ∙ sym (put_from-inside base n g A a v (omega arith) l) ∙ before d
    go (no d) (no m) (no l) =
        put_from-after base (n + 1) g A a v (omega arith) ∙ sym (put_from-after base n g A a v (omega arith)) ∙ before d
