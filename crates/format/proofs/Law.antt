-- Lawful formats: what is written reads as it was, what is read would be written so, and what writing refuses, reading refuses with the same number.
-- In order: the law; it holds of each way of building a format; what a judgement says of the parts.
-- Not here: whole files (Round).
use mathlib.Core.Path.{◌≡◌, refl, sym, ap, ◌∙◌, subst}
use mathlib.Core.Bool.{Bool, true}
use mathlib.Core.Logic.{⊎_elim}
use mathlib.Core.List.{List, [], ◌∷◌, ◌++◌, append_assoc, append-nil}
use mathlib.Core.Option.{none, some}
use Prim.Native.Nat.{ℕ, zero, suc, ◌+◌, ◌*◌, ◌^◌, ◌≤◌, ◌<◌}
use native.Mathlib.Nat.{mod-eq_of_lt}
use native.Mathlib.Omega.{arith}
use borrow.Author.Tests.{ltb-true, ltb-false, eqb-true, lt-ltb}
use lib.Dec.{ltb, eqb}
use lib.ListN.{length, get_or}
use Rattle.bits.specs.Field.{number_at}
use Rattle.bits.specs.Packed.{widths}
use Rattle.bits.proofs.Laws.{number_lt}
use Rattle.bits.proofs.Packed.{widths-app}
use Rattle.format.specs.Format.{ok, Format, unless, tested, taken, field, check, rows_read, rows_judge, rows_fields, rows_kept, rows, pair, via, zeros}
use Rattle.format.specs.File.{Fit}
use Rattle.format.proofs.Fault.{unless-none, none-unless, unless-some, first-none, none_first, first_some}
use Rattle.format.proofs.Fault.{then_ok, ok-then, tested-ok, ok-tested, taken-value, taken-ok, BadAt, bad-then, ok-bad, bad-tested}
use Rattle.format.proofs.Kept.{unless_fault-none, unless_fault-parts}
use Rattle.format.proofs.Holds.{fit-left, fit-right, Holds, holds-left, holds-right, holds-app}

-- the value has no fault, the bytes hold its fields, and the place after it is theirs
pub record Back {A : Type 0} (f : Format A) (a : A) (s : List ℕ) (pos q : ℕ) : Type 0 where
  pub judged : f.judge a ≡ none
  pub holds : Holds s pos (f.fields a)
  pub place : q ≡ pos + widths (f.fields a)

-- what holds its fields reads as the value; what was read is what they hold; where it has a fault, reading its fields gives the fault's number,
-- and where it has none, all its fields stand before the first fault
pub record Lawful {A : Type 0} (f : Format A) : Type 0 where
  pub there : (a : A) (s : List ℕ) (pos : ℕ) → f.judge a ≡ none → Holds s pos (f.fields a) → f.read s pos ≡ ok a (pos + widths (f.fields a))
  pub back : (a : A) (s : List ℕ) (pos q : ℕ) → pos ≤ 8 * length s → f.read s pos ≡ ok a q → Back f a s pos q
  pub refuse : (a : A) (n : ℕ) (s : List ℕ) (pos : ℕ) → f.judge a ≡ some n → 0 < n → Fit (f.fields a) → Holds s pos (f.fields a) → BadAt (f.read s pos) n
  pub all-kept : (a : A) → f.judge a ≡ none → f.kept a ≡ f.fields a

pub lawful-field : (w : ℕ) (t : ℕ → Bool) (n : ℕ) → Lawful (field w t n)
unfolding field widths
lawful-field w t n =
    record {
      there = λ x s pos j h.
          let (j₀, j₁) = first-none (unless (ltb x (2 ^ w)) n) (unless (t x) n) j in
          let lt : x < 2 ^ w = ltb-true x (2 ^ w) (unless-none (ltb x (2 ^ w)) n j₀) in
          let e : number_at s pos w ≡ x = h.has.0 ∙ mod-eq_of_lt lt in
          ok-then (taken s pos w) _ x (pos + w) (taken-value s pos w (omega (arith, h.ends)) ∙ ap (λ (y : ℕ). ok y (pos + w)) e)
          ∙ ok-tested (t x) n x (pos + w) (unless-none (t x) n j₁)
          ∙ ap (ok x) (omega arith);
      back = λ x s pos q hp e.
          then_ok (taken s pos w) _ x q e λ y p e₀ e₁.
          let (h₀, h₁, h₂) = taken-ok s pos w y p e₀ in
          let (t₀, t₁, t₂) = tested-ok (t y) n y p x q e₁ in
          let lt : x < 2 ^ w = subst (λ (z : ℕ). z < 2 ^ w) (h₁ ∙ t₁) (number_lt s pos w) in
          record {
            judged = none_first _ _ (none-unless _ n (lt-ltb x (2 ^ w) lt)) (none-unless _ n (subst (λ (y : ℕ). t y ≡ true) t₁ t₀));
            holds = record { ends = omega arith; has = (h₁ ∙ t₁ ∙ sym (mod-eq_of_lt lt), tt) };
            place = omega arith;
          };
      refuse = λ x m s pos j z h k.
          let e : number_at s pos w ≡ x = k.has.0 ∙ mod-eq_of_lt h.0 in
          let got : taken s pos w ≡ ok x (pos + w) = taken-value s pos w (omega (arith, k.ends)) ∙ ap (λ (y : ℕ). ok y (pos + w)) e in
          ok-bad (taken s pos w) _ x (pos + w) m got
          (⊎_elim (λ q. absurd (omega (arith, h.0, ltb-false x (2 ^ w) (unless-some (ltb x (2 ^ w)) n m q).0)))
          (λ q. let u = unless-some (t x) n m q.1 in bad-tested (t x) n m x (pos + w) u.0 u.1)
          (first_some (unless (ltb x (2 ^ w)) n) (unless (t x) n) m j));
      all-kept = λ x j. unless_fault-none _ _ j;
    }

module _ {A : Type 0} (f : Format A) (law : Lawful f) where
  pub lawful-check : (t : A → Bool) (n : ℕ) → Lawful (check f t n)
  unfolding check
  lawful-check t n =
      record {
        there = λ a s pos j h.
            let (j₀, j₁) = first-none (f.judge a) (unless (t a) n) j in
            ok-then (f.read s pos) _ a _ (law.there a s pos j₀ h) ∙ ok-tested (t a) n a _ (unless-none (t a) n j₁);
        back = λ a s pos q hp e.
            then_ok (f.read s pos) (λ a q. tested (t a) n a q) a q e λ b p e₀ e₁.
            let (t₀, t₁, t₂) = tested-ok (t b) n b p a q e₁ in
            let k : Back f a s pos q = law.back a s pos q hp (e₀ ∙ ap (λ (x : A). ok x p) t₁ ∙ ap (ok a) t₂) in
            record {
              judged = none_first (f.judge a) _ k.judged (none-unless (t a) n (subst (λ (x : A). t x ≡ true) t₁ t₀));
              holds = k.holds;
              place = k.place;
            };
        refuse = λ a m s pos j z h k.
            ⊎_elim (λ q. bad-then (f.read s pos) _ m (law.refuse a m s pos q z h k))
            (λ q. let u = unless-some (t a) n m q.1 in
            ok-bad (f.read s pos) _ a (pos + widths (f.fields a)) m (law.there a s pos q.0 k) (bad-tested (t a) n m a _ u.0 u.1))
            (first_some (f.judge a) (unless (t a) n) m j);
        all-kept = λ a j. law.all-kept a (first-none (f.judge a) (unless (t a) n) j).0;
      }

module _ {A B : Type 0} (f : Format A) (g : A → Format B) (law : Lawful f) (laws : (a : A) → Lawful (g a)) where
  pub lawful-pair : Lawful (pair f g)
  unfolding pair
  lawful-pair =
      record {
        there = λ c s pos j h.
            let a = c.0 in
            let b = c.1 in
            let m = f.fields a in
            let (j₀, j₁) = first-none (f.judge a) ((g a).judge b) j in
            ok-then (f.read s pos) _ a _ (law.there a s pos j₀ (holds-left s pos m ((g a).fields b) h))
            ∙ ok-then ((g a).read s (pos + widths m)) _ b _ ((laws a).there b s (pos + widths m) j₁ (holds-right s pos m ((g a).fields b) h))
            ∙ ap (ok (a, b)) (omega (arith, widths-app m ((g a).fields b)));
        back = λ c s pos q hp e.
            then_ok (f.read s pos) _ c q e λ a p e₀ e₁.
            then_ok ((g a).read s p) _ c q e₁ λ b r e₂ e₃.
            let k : Back f a s pos p = law.back a s pos p hp e₀ in
            let l : Back (g a) b s p r = (laws a).back b s p r (omega (arith, k.place, k.holds.ends)) e₂ in
            let ec : (a, b) ≡ c = cc in
            let er : r ≡ q = cc in
            subst (λ (x : A × B). Back (pair f g) x s pos q) ec
            record {
              judged = none_first (f.judge a) _ k.judged l.judged;
              holds =
                  holds-app s pos (f.fields a) ((g a).fields b) k.holds (subst (λ (x : ℕ). Holds s x ((g a).fields b)) k.place l.holds);
              place = omega (arith, k.place, l.place, er, widths-app (f.fields a) ((g a).fields b));
            };
        refuse = λ c n s pos j z h k.
            let a = c.0 in
            let b = c.1 in
            let m = f.fields a in
            let r = (g a).fields b in
            ⊎_elim (λ q. bad-then (f.read s pos) _ n (law.refuse a n s pos q z (fit-left m r h) (holds-left s pos m r k)))
            (λ q. ok-bad (f.read s pos) _ a (pos + widths m) n (law.there a s pos q.0 (holds-left s pos m r k))
            (bad-then ((g a).read s (pos + widths m)) _ n ((laws a).refuse b n s (pos + widths m) q.1 z (fit-right m r h) (holds-right s pos m r k))))
            (first_some (f.judge a) ((g a).judge b) n j);
        all-kept = λ c j.
            let a = c.0 in
            let b = c.1 in
            let (j₀, j₁) = first-none (f.judge a) ((g a).judge b) j in
            unless_fault-parts (f.judge a) j₀ (law.all-kept a j₀) ((laws a).all-kept b j₁);
      }

module _ {A B : Type 0} (to : B → A) (from : A → B) (f : Format A) (law : Lawful f) where
  -- the two names are the same for what the format takes
  pub lawful-via : ((b : B) → f.judge (to b) ≡ none → from (to b) ≡ b) → ((a : A) → f.judge a ≡ none → to (from a) ≡ a) → Lawful (via to from f)
  unfolding via
  lawful-via same again =
      record {
        there = λ b s pos j h. ok-then (f.read s pos) _ (to b) _ (law.there (to b) s pos j h) ∙ ap (λ (x : B). ok x (pos + widths (f.fields (to b)))) (same b j);
        back = λ b s pos q hp e.
            then_ok (f.read s pos) _ b q e λ a p e₀ e₁.
            let k : Back f a s pos p = law.back a s pos p hp e₀ in
            let eb : from a ≡ b = cc in
            let ep : p ≡ q = cc in
            let ea : to b ≡ a = ap to (sym eb) ∙ again a k.judged in
            let k' : Back f (to b) s pos q = subst (λ (x : A). Back f x s pos q) (sym ea) (subst (λ (x : ℕ). Back f a s pos x) ep k) in
            record { judged = k'.judged; holds = k'.holds; place = k'.place };
        refuse = λ b n s pos j z h k. bad-then (f.read s pos) _ n (law.refuse (to b) n s pos j z h k);
        all-kept = λ b j. law.all-kept (to b) j;
      }

module _ {A : Type 0} (f : List A → Format A) (laws : (l : List A) → Lawful (f l)) where
  rows-there : (n : ℕ) (l m : List A) (s : List ℕ) (pos : ℕ) → rows_judge f l n m ≡ none → Holds s pos (rows_fields f l m)
      → rows_read f s l n pos ≡ ok (l ++ m) (pos + widths (rows_fields f l m))
  unfolding rows_read rows_judge rows_fields widths
  rows-there zero l [] s pos j h = ap (λ (x : List A). ok x pos) (sym (append-nil l)) ∙ ap (ok (l ++ [])) (omega arith)
  rows-there zero l (a ∷ m) s pos j h = absurd (let z : ◌≡◌ {A = ℕ} 0 1 = cc in omega arith)
  rows-there (suc n) l [] s pos j h = absurd (let z : ◌≡◌ {A = ℕ} 0 1 = cc in omega arith)
  rows-there (suc n) l (a ∷ m) s pos j h =
      let (j₀, j₁) = first-none ((f l).judge a) (rows_judge f (l ++ a ∷ []) n m) j in
      let d = (f l).fields a in
      let r = rows_fields f (l ++ a ∷ []) m in
      ok-then ((f l).read s pos) _ a _ ((laws l).there a s pos j₀ (holds-left s pos d r h))
      ∙ rows-there n (l ++ a ∷ []) m s (pos + widths d) j₁ (holds-right s pos d r h)
      ∙ ap (λ (x : List A). ok x (pos + widths d + widths r)) (append_assoc l (a ∷ []) m)
      ∙ ap (ok (l ++ a ∷ m)) (omega (arith, widths-app d r))

  pub record RowsBack (n : ℕ) (l : List A) (s : List ℕ) (pos : ℕ) (c : List A) (q : ℕ) : Type 0 where
    pub rest : List A
    pub whole : l ++ rest ≡ c
    pub judged : rows_judge f l n rest ≡ none
    pub holds : Holds s pos (rows_fields f l rest)
    pub place : q ≡ pos + widths (rows_fields f l rest)

  rows_back : (n : ℕ) (l : List A) (s : List ℕ) (pos : ℕ) (c : List A) (q : ℕ) → pos ≤ 8 * length s → rows_read f s l n pos ≡ ok c q → RowsBack n l s pos c q
  unfolding rows_read rows_judge rows_fields widths
  rows_back zero l s pos c q hp e =
      let el : l ≡ c = cc in
      let ep : pos ≡ q = cc in
      record { rest = []; whole = append-nil l ∙ el; judged = refl; holds = record { ends = omega arith; has = tt }; place = omega arith }
  rows_back (suc n) l s pos c q hp e =
      then_ok ((f l).read s pos) _ c q e λ a p e₀ e₁.
      let k : Back (f l) a s pos p = (laws l).back a s pos p hp e₀ in
      let t : RowsBack n (l ++ a ∷ []) s p c q = rows_back n (l ++ a ∷ []) s p c q (omega (arith, k.place, k.holds.ends)) e₁ in
      let r = rows_fields f (l ++ a ∷ []) t.rest in
      record {
        rest = a ∷ t.rest;
        whole = sym (append_assoc l (a ∷ []) t.rest) ∙ t.whole;
        judged = none_first _ _ k.judged t.judged;
        holds = holds-app s pos ((f l).fields a) r k.holds (subst (λ (x : ℕ). Holds s x r) k.place t.holds);
        place = omega (arith, k.place, t.place, widths-app ((f l).fields a) r);
      }

  rows-refuse : (m : ℕ) (l as' : List A) (n : ℕ) (s : List ℕ) (pos : ℕ) → rows_judge f l m as' ≡ some n → 0 < n → Fit (rows_fields f l as') → Holds s pos (rows_fields f l as')
      → BadAt (rows_read f s l m pos) n
  unfolding rows_read rows_judge rows_fields
  rows-refuse zero l [] n s pos j z h k = absurd (let y : ◌≡◌ {A = ℕ} 0 1 = cc in omega arith)
  rows-refuse zero l (a ∷ r) n s pos j z h k = absurd (let y : 0 ≡ n = cc in omega arith)
  rows-refuse (suc m) l [] n s pos j z h k = absurd (let y : 0 ≡ n = cc in omega arith)
  rows-refuse (suc m) l (a ∷ r) n s pos j z h k =
      let d = (f l).fields a in
      let e = rows_fields f (l ++ a ∷ []) r in
      ⊎_elim (λ q. bad-then ((f l).read s pos) _ n ((laws l).refuse a n s pos q z (fit-left d e h) (holds-left s pos d e k)))
      (λ q. ok-bad ((f l).read s pos) _ a (pos + widths d) n ((laws l).there a s pos q.0 (holds-left s pos d e k))
      (rows-refuse m (l ++ a ∷ []) r n s (pos + widths d) q.1 z (fit-right d e h) (holds-right s pos d e k)))
      (first_some ((f l).judge a) (rows_judge f (l ++ a ∷ []) m r) n j)

  rows-all-kept : (n : ℕ) (l m : List A) → rows_judge f l n m ≡ none → rows_kept f l m ≡ rows_fields f l m
  unfolding rows_judge rows_fields rows_kept
  rows-all-kept zero l [] j = refl
  rows-all-kept zero l (a ∷ m) j = absurd (let z : ◌≡◌ {A = ℕ} 0 1 = cc in omega arith)
  rows-all-kept (suc n) l [] j = refl
  rows-all-kept (suc n) l (a ∷ m) j =
      let (j₀, j₁) = first-none ((f l).judge a) (rows_judge f (l ++ a ∷ []) n m) j in
      unless_fault-parts ((f l).judge a) j₀ ((laws l).all-kept a j₀) (rows-all-kept n (l ++ a ∷ []) m j₁)

  pub lawful-rows : (n : ℕ) → Lawful (rows n f)
  unfolding rows
  lawful-rows n =
      record {
        there = λ m s pos j h. rows-there n [] m s pos j h;
        back = λ c s pos q hp e.
            let t = rows_back n [] s pos c q hp e in
            subst (λ (x : List A). Back (rows n f) x s pos q) t.whole record { judged = t.judged; holds = t.holds; place = t.place };
        refuse = λ a m s pos j z h k. rows-refuse n [] a m s pos j z h k;
        all-kept = λ m j. rows-all-kept n [] m j;
      }

-- parts of what a judgement says
pub judged-field : (w : ℕ) (t : ℕ → Bool) (n x : ℕ) → (field w t n).judge x ≡ none → (x < 2 ^ w) × (t x ≡ true)
unfolding field
judged-field w t n x j =
    let (j₀, j₁) = first-none (unless (ltb x (2 ^ w)) n) (unless (t x) n) j in (ltb-true x (2 ^ w) (unless-none (ltb x (2 ^ w)) n j₀), unless-none (t x) n j₁)

pub judged-pair : {A B : Type 0} (f : Format A) (g : A → Format B) (a : A) (b : B) → (pair f g).judge (a, b) ≡ none → (f.judge a ≡ none) × ((g a).judge b ≡ none)
unfolding pair
judged-pair f g a b j = first-none (f.judge a) ((g a).judge b) j

rows-length : {A : Type 0} (f : List A → Format A) (l : List A) (n : ℕ) (m : List A) → rows_judge f l n m ≡ none → length m ≡ n
unfolding rows_judge
rows-length f l zero [] j = refl
rows-length f l zero (a ∷ m) j = absurd (let z : ◌≡◌ {A = ℕ} 0 1 = cc in omega arith)
rows-length f l (suc n) [] j = absurd (let z : ◌≡◌ {A = ℕ} 0 1 = cc in omega arith)
rows-length f l (suc n) (a ∷ m) j = ap suc (rows-length f (l ++ a ∷ []) n m (first-none ((f l).judge a) _ j).1)

pub judged-rows : {A : Type 0} (n : ℕ) (f : List A → Format A) (m : List A) → (rows n f).judge m ≡ none → length m ≡ n
unfolding rows
judged-rows n f m j = rows-length f [] n m j

module _ {A : Type 0} (f : List A → Format A) where
  rows-each : (P : A → Type 0) → ((l : List A) (a : A) → (f l).judge a ≡ none → P a) → (l : List A) (n : ℕ) (m : List A) → rows_judge f l n m ≡ none
      → (k : ℕ) (d : A) → P d → P (get_or m k d)
  unfolding rows_judge
  rows-each P each l n [] j k d h = h
  rows-each P each l zero (a ∷ m) j k d h = absurd (let z : ◌≡◌ {A = ℕ} 0 1 = cc in omega arith)
  rows-each P each l (suc n) (a ∷ m) j zero d h = each l a (first-none _ _ j).0
  rows-each P each l (suc n) (a ∷ m) j (suc k) d h = rows-each P each (l ++ a ∷ []) n m (first-none ((f l).judge a) _ j).1 k d h

  -- what holds of each row without a fault, and of the default, holds at every place
  pub judged-each : (n : ℕ) (m : List A) (P : A → Type 0) → ((l : List A) (a : A) → (f l).judge a ≡ none → P a) → (rows n f).judge m ≡ none → (k : ℕ) (d : A) → P d → P (get_or m k d)
  unfolding rows
  judged-each n m P each j k d h = rows-each P each [] n m j k d h

pub lawful-zeros : {A : Type 0} (f : Format A) → Lawful f → (w n : ℕ) → Lawful (zeros f w n)
unfolding zeros
lawful-zeros {A} f law w n =
    let z : A → Format ℕ = λ _. field w (eqb 0) n in
    lawful-via _ _ _ (lawful-pair f z law (λ _. lawful-field w (eqb 0) n)) (λ b j. refl)
    (λ p j. ap (λ (x : ℕ). (p.0, x)) (eqb-true 0 p.1 (judged-field w (eqb 0) n p.1 (judged-pair f z p.0 p.1 j).1).1))
