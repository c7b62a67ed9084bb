-- Which numbers reading the bytes s from a place on can give: once for each way of building a format. In order: what refuses, a field, a check, a pair,
-- another name, zeros, rows, a whole file.
use mathlib.Core.Path.{◌≡◌, refl, ap, ◌∙◌, subst}
use mathlib.Core.Bool.{Bool, true, false, cond}
use mathlib.Core.List.{List, [], ◌∷◌, ◌++◌}
use Prim.Native.Nat.{ℕ, zero, suc, ◌+◌, ◌*◌, ◌<◌}
use native.Mathlib.Omega.{arith}
use lib.Dec.{leb, eqb}
use lib.ListN.{length, length-append}
use Rattle.bits.specs.Field.{number_at}
use Rattle.format.specs.Format.{Res, ok, bad, Format, tested, and_then, taken, field, check, rows_read, rows, pair, via, zeros}
use Rattle.format.specs.File.{ended, read_file}
use Rattle.format.proofs.Fault.{taken-ok}

module _ (P : ℕ → Type 0) (s : List ℕ) where
  -- every number that reading from the place gives is one of P
  pub record Refuses {A : Type 0} (f : Format A) (pos : ℕ) : Type 0 where
    pub only : (n q : ℕ) → f.read s pos ≡ bad n q → P n

  same-bad : {A : Type 0} (m p n q : ℕ) → P m → ◌≡◌ {A = Res A} (bad m p) (bad n q) → P n
  same-bad m p n q h e = subst P (let d : m ≡ n = cc in d) h

  not-bad : {A : Type 0} (a : A) (p n q : ℕ) → ok a p ≡ bad n q → P n
  not-bad a p n q e = absurd (let z : ◌≡◌ {A = ℕ} 0 1 = cc in omega arith)

  -- of what comes after something that was read, either refuses
  after : {A B : Type 0} (r : Res A) (k : A → ℕ → Res B) (n q : ℕ) → ((m p : ℕ) → r ≡ bad m p → P m) → ((a : A) (p : ℕ) → r ≡ ok a p → k a p ≡ bad n q → P n) → and_then r k ≡ bad n q
      → P n
  unfolding and_then
  after (bad m p) k n q f g e = same-bad m p n q (f m p refl) e
  after (ok a p) k n q f g e = g a p refl e

  test-only : {A : Type 0} (b : Bool) (m : ℕ) (a : A) (p n q : ℕ) → (b ≡ false → P m) → tested b m a p ≡ bad n q → P n
  unfolding tested
  test-only true m a p n q h e = not-bad a p n q e
  test-only false m a p n q h e = same-bad m p n q (h refl) e

  pub taken-only : (pos w n q : ℕ) → P 1 → taken s pos w ≡ bad n q → P n
  unfolding taken
  taken-only pos w n q h = go (leb (pos + w) (8 * length s))
    where
      go : (b : Bool) → cond b (ok (number_at s pos w) (pos + w)) (bad 1 (8 * length s)) ≡ bad n q → P n
      go true e = not-bad (number_at s pos w) (pos + w) n q e
      go false e = same-bad 1 (8 * length s) n q h e

  -- the field gives its own number where the bits at the place fail the test
  pub refuses-field-where : (w : ℕ) (t : ℕ → Bool) (m pos : ℕ) → P 1 → (t (number_at s pos w) ≡ false → P m) → Refuses (field w t m) pos
  unfolding field
  refuses-field-where w t m pos h k =
      record {
        only = λ n q e.
            after (taken s pos w) _ n q (λ i p d. taken-only pos w i p h d)
            (λ x p c d. test-only (t x) m x p n q (λ b. k (ap t (taken-ok s pos w x p c).1 ∙ b)) d) e;
      }

  pub refuses-field : (w : ℕ) (t : ℕ → Bool) (m pos : ℕ) → P 1 → P m → Refuses (field w t m) pos
  refuses-field w t m pos h k = refuses-field-where w t m pos h (λ _. k)

  pub refuses-check : {A : Type 0} (f : Format A) (t : A → Bool) (m pos : ℕ) → Refuses f pos → ((a : A) → t a ≡ false → P m) → Refuses (check f t m) pos
  unfolding check
  refuses-check f t m pos g k = record { only = λ n q e. after (f.read s pos) _ n q g.only (λ a p c d. test-only (t a) m a p n q (k a) d) e }

  -- the second, wherever the first ends
  pub refuses-pair : {A B : Type 0} (f : Format A) (g : A → Format B) (pos : ℕ) → Refuses f pos
      → ((a : A) (q : ℕ) → f.read s pos ≡ ok a q → Refuses (g a) q) → Refuses (pair f g) pos
  unfolding pair
  refuses-pair f g pos x y =
      record {
        only = λ n q e.
            after (f.read s pos) _ n q x.only (λ a p c d. after ((g a).read s p) _ n q (y a p c).only (λ b r _ i. not-bad (a, b) r n q i) d) e;
      }

  pub refuses-via : {A B : Type 0} (to : B → A) (from : A → B) (f : Format A) (pos : ℕ) → Refuses f pos → Refuses (via to from f) pos
  unfolding via
  refuses-via to from f pos x = record { only = λ n q e. after (f.read s pos) _ n q x.only (λ a p _ d. not-bad (from a) p n q d) e }

  pub refuses-zeros : {A : Type 0} (f : Format A) (w m pos : ℕ) → P 1 → P m → Refuses f pos → Refuses (zeros f w m) pos
  unfolding zeros
  refuses-zeros f w m pos h k x = refuses-via _ _ _ pos (refuses-pair f _ pos x (λ _ q _. refuses-field w (eqb 0) m q h k))

  -- rows: At says where a row begins after those before it
  module _ {A : Type 0} (f : List A → Format A) (At : List A → ℕ → Type 0)
      (next : (l : List A) (pos : ℕ) (a : A) (q : ℕ) → At l pos → (f l).read s pos ≡ ok a q → At (l ++ a ∷ []) q) where
    rows-only : (c : ℕ) → ((l : List A) (pos : ℕ) → length l < c → At l pos → Refuses (f l) pos) → (l : List A) (m pos n q : ℕ) → length l + m ≡ c → At l pos
        → rows_read f s l m pos ≡ bad n q → P n
    unfolding rows_read
    rows-only c each l zero pos n q h i e = not-bad l pos n q e
    rows-only c each l (suc m) pos n q h i e =
        after ((f l).read s pos) _ n q (each l pos (omega arith) i).only
        (λ a p d g. rows-only c each (l ++ a ∷ []) m p n q (omega (arith, length-append l (a ∷ []))) (next l pos a p i d) g) e

    pub refuses-rows-where : (c pos : ℕ) → ((l : List A) (pos : ℕ) → length l < c → At l pos → Refuses (f l) pos) → At [] pos → Refuses (rows c f) pos
    unfolding rows
    refuses-rows-where c pos each i = record { only = λ n q e. rows-only c each [] c pos n q (omega arith) i e }

  pub refuses-rows : {A : Type 0} (c : ℕ) (f : List A → Format A) (pos : ℕ) → ((l : List A) (q : ℕ) → Refuses (f l) q) → Refuses (rows c f) pos
  refuses-rows c f pos each = refuses-rows-where f (λ _ _. Unit {0}) (λ _ _ _ _ _ _. tt) c pos (λ l q _ _. each l q) tt

  pub refuses-file : {A : Type 0} (f : Format A) → P 1 → P 3 → Refuses f 0 → (n q : ℕ) → read_file f s ≡ bad n q → P n
  unfolding read_file ended
  refuses-file f h k x n q e =
      after (f.read s 0) _ n q x.only
      (λ a p _ d. after ((field _ (eqb 0) 3).read s p) _ n q (refuses-field _ (eqb 0) 3 p h k).only (λ y r _ c. test-only (eqb r (8 * length s)) 3 a r n q (λ _. k) c) d) e
