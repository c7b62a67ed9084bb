-- Which numbers judging a value can give: once for each way of building a format. In order: a field, a check, a pair, another name, zeros, rows.
use mathlib.Core.Path.{◌≡◌, refl, ◌∙◌, subst}
use mathlib.Core.Bool.{Bool, false}
use mathlib.Core.Logic.{◌⊎◌, inl, inr, ⊎_elim}
use mathlib.Core.List.{List, [], ◌∷◌, ◌++◌, append_assoc}
use mathlib.Core.Option.{Option, none, some}
use Prim.Native.Nat.{ℕ, zero, suc, ◌^◌, ◌≤◌}
use native.Mathlib.Omega.{arith}
use borrow.Author.Tests.{ltb-false}
use lib.Dec.{eqb}
use lib.ListN.{length}
use Rattle.format.specs.Format.{Format, field, check, rows_judge, rows, pair, via, zeros}
use Rattle.format.proofs.Fault.{first_some, unless-some}
use Rattle.format.proofs.Round.{zero-judged}

module _ (P : ℕ → Type 0) where
  -- every number that judging a gives is one of P
  pub record Gives {A : Type 0} (f : Format A) (a : A) : Type 0 where
    pub only : (n : ℕ) → f.judge a ≡ some n → P n

  -- a field gives its number for a value that is too great or fails the test
  pub gives-field-where : (w : ℕ) (t : ℕ → Bool) (m x : ℕ) → ((2 ^ w ≤ x) ⊎ (t x ≡ false) → P m) → Gives (field w t m) x
  unfolding field
  gives-field-where w t m x h =
      record {
        only = λ n e.
            ⊎_elim (λ q. let u = unless-some _ m n q in subst P u.1 (h (inl (ltb-false x (2 ^ w) u.0))))
            (λ q. let u = unless-some _ m n q.1 in subst P u.1 (h (inr u.0))) (first_some _ _ n e);
      }

  pub gives-field : (w : ℕ) (t : ℕ → Bool) (m x : ℕ) → P m → Gives (field w t m) x
  gives-field w t m x h = gives-field-where w t m x (λ _. h)

  -- a check gives its number for a value without another fault that fails the test
  pub gives-check-where : {A : Type 0} (f : Format A) (t : A → Bool) (m : ℕ) (a : A) → Gives f a → (f.judge a ≡ none → t a ≡ false → P m) → Gives (check f t m) a
  unfolding check
  gives-check-where f t m a g h =
      record { only = λ n e. ⊎_elim (λ q. g.only n q) (λ q. let u = unless-some _ m n q.1 in subst P u.1 (h q.0 u.0)) (first_some _ _ n e) }

  pub gives-check : {A : Type 0} (f : Format A) (t : A → Bool) (m : ℕ) (a : A) → Gives f a → P m → Gives (check f t m) a
  gives-check f t m a g h = gives-check-where f t m a g (λ _ _. h)

  pub gives-pair : {A B : Type 0} (f : Format A) (g : A → Format B) (a : A) (b : B) → Gives f a → Gives (g a) b → Gives (pair f g) (a, b)
  unfolding pair
  gives-pair f g a b x y = record { only = λ n e. ⊎_elim (λ q. x.only n q) (λ q. y.only n q.1) (first_some _ _ n e) }

  pub gives-via : {A B : Type 0} (to : B → A) (from : A → B) (f : Format A) (b : B) → Gives f (to b) → Gives (via to from f) b
  unfolding via
  gives-via to from f b x = record { only = x.only }

  no-fault : (x : Option ℕ) (n : ℕ) → x ≡ none → x ≡ some n → P n
  no-fault x n e d = absurd (let y : ◌≡◌ {A = ℕ} 0 1 = cc in omega arith)

  pub gives-zeros : {A : Type 0} (f : Format A) (w m : ℕ) (a : A) → Gives f a → Gives (zeros f w m) a
  unfolding zeros
  gives-zeros f w m a g =
      gives-via _ _ _ a (gives-pair f (λ _. field w (eqb 0) m) a 0 g record { only = λ n e. no-fault _ n (zero-judged w m) e })

  rows-give : {A : Type 0} (f : List A → Format A) (whole : List A) (each : (l : List A) (a : A) (r : List A) → l ++ a ∷ r ≡ whole → Gives (f l) a) (l : List A) (n : ℕ) (m : List A)
      → l ++ m ≡ whole → length m ≡ n → (k : ℕ) → rows_judge f l n m ≡ some k → P k
  unfolding rows_judge
  rows-give f whole each l zero [] w z k e = absurd (let y : ◌≡◌ {A = ℕ} 0 1 = cc in omega arith)
  rows-give f whole each l zero (a ∷ m) w z k e = absurd (omega arith)
  rows-give f whole each l (suc n) [] w z k e = absurd (omega arith)
  rows-give f whole each l (suc n) (a ∷ m) w z k e =
      ⊎_elim (λ q. (each l a m w).only k q) (λ q. rows-give f whole each (l ++ a ∷ []) n m (append_assoc l (a ∷ []) m ∙ w) (omega arith) k q.1) (first_some _ _ k e)

  -- each row, after those before it
  pub gives-rows : {A : Type 0} (f : List A → Format A) (n : ℕ) (m : List A) → length m ≡ n → ((l : List A) (a : A) (r : List A) → l ++ a ∷ r ≡ m → Gives (f l) a)
      → Gives (rows n f) m
  unfolding rows
  gives-rows f n m z each = record { only = λ k e. rows-give f m each [] n m refl z k e }
