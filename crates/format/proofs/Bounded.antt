-- Bounded formats: how many bits reading takes at most, and that what stands beyond them does not matter. In order: bytes that agree, what comes after equal
-- results, the law, that it holds of each way of building a format, a whole file.
use mathlib.Core.Path.{◌≡◌, refl, sym, ap, ◌∙◌, subst}
use mathlib.Core.Bool.{Bool, true}
use mathlib.Core.List.{List, [], ◌∷◌, ◌++◌}
use Prim.Native.Nat.{ℕ, zero, suc, ◌+◌, ◌-◌, ◌*◌, ◌/◌, ◌%◌, ◌^◌, ◌≤◌, ◌<◌}
use native.Mathlib.Decide.{dec_le}
use native.Mathlib.Nat.{suc-mul, mul-le-mul_right}
use native.Mathlib.Omega.{arith}
use borrow.Author.Tests.{ne_eqb, eqb-true}
use lib.Dec.{eqb}
use lib.ListN.{length, get_or, take, drop, take-append-drop, get_or-append}
use lib.Seq.{length-take-le, take_all}
use Rattle.bits.specs.Field.{bit_at}
use Rattle.bits.proofs.Laws.{number_is, number-ext}
use Rattle.format.specs.Format.{Res, ok, bad, Format, tested, and_then, taken, field, check, rows_read, rows, pair, via, zeros}
use Rattle.format.specs.File.{SameBits, ended, read_file}
use Rattle.format.proofs.Fault.{then_ok, tested-ok, taken-value, taken-ok}

pub agree_less : {s s' : List ℕ} {m n : ℕ} → m ≤ n → SameBits s s' n → SameBits s s' m
agree_less h g = record { left = omega (arith, g.left); right = omega (arith, g.right); bits = λ i l. g.bits i (omega arith) }

pub agree-taken : (s s' : List ℕ) (pos w : ℕ) → SameBits s s' (pos + w) → taken s pos w ≡ taken s' pos w
agree-taken s s' pos w g =
    taken-value s pos w g.left
    ∙ ap (λ (x : ℕ). ok x (pos + w))
    (number_is s pos w ∙ number-ext (bit_at s) (bit_at s') pos pos w (λ i l. g.bits (pos + i) (omega arith)) ∙ sym (number_is s' pos w))
    ∙ sym (taken-value s' pos w g.right)

take-byte : (s : List ℕ) (k j : ℕ) → j < k → k ≤ length s → get_or (take k s) j 0 ≡ get_or s j 0
take-byte s k j h l =
    sym (get_or-append (take k s) (drop k s) 0 j (omega (arith, length-take-le k s l))) ∙ ap (λ (r : List ℕ). get_or r j 0) (take-append-drop k s)

-- the first k bytes, in the bits of the first m
agree-take : (s : List ℕ) (k m : ℕ) → m ≤ k → k ≤ length s → SameBits (take k s) s (8 * m)
unfolding bit_at
agree-take s k m h l =
    record {
      left = omega (arith, length-take-le k s l);
      right = omega arith;
      bits = λ i b. ap (λ (x : ℕ). x / 2 ^ (7 - i % 8) % 2) (take-byte s k (i / 8) (omega arith) l);
    }

-- what comes after equal results is equal
agree_then : {A B : Type 0} (r r' : Res A) (k k' : A → ℕ → Res B) → r ≡ r' → ((a : A) (q : ℕ) → r ≡ ok a q → k a q ≡ k' a q) → and_then r k ≡ and_then r' k'
unfolding and_then
agree_then {A} (bad n q) r' k k' e h = ap (λ (x : Res A). and_then x k') e
agree_then {A} (ok a q) r' k k' e h = h a q refl ∙ ap (λ (x : Res A). and_then x k') e

same-value : {A : Type 0} (a b : A) (p q : ℕ) → ok a p ≡ ok b q → a ≡ b
same-value a b p q e = cc

same_place : {A : Type 0} (a b : A) (p q : ℕ) → ok a p ≡ ok b q → p ≡ q
same_place a b p q e = cc

-- what is read has the property P and ends at most n bits on; bytes that agree in these bits read the same
pub record Bounded {A : Type 0} (f : Format A) (P : A → Type 0) (n : ℕ) : Type 0 where
  pub has : (s : List ℕ) (pos : ℕ) (a : A) (q : ℕ) → f.read s pos ≡ ok a q → (P a) × (q ≤ pos + n)
  pub same : (s s' : List ℕ) (pos : ℕ) → SameBits s s' (pos + n) → f.read s pos ≡ f.read s' pos

-- no property
abbrev pub Any : {A : Type 0} → A → Type 0
Any a = Unit {0}

pub bounded-field : (w : ℕ) (t : ℕ → Bool) (n : ℕ) → Bounded (field w t n) (λ x. t x ≡ true) w
unfolding field
bounded-field w t n =
    record {
      has = λ s pos x q e.
          then_ok (taken s pos w) _ x q e λ y p e₀ e₁.
          let (h₀, h₁, h₂) = taken-ok s pos w y p e₀ in
          let (t₀, t₁, t₂) = tested-ok (t y) n y p x q e₁ in
          (subst (λ (z : ℕ). t z ≡ true) t₁ t₀, omega arith);
      same = λ s s' pos g. ap (λ (r : Res ℕ). and_then r (λ x q. tested (t x) n x q)) (agree-taken s s' pos w g);
    }

module _ {A : Type 0} (f : Format A) {P : A → Type 0} {n : ℕ} (b : Bounded f P n) where
  -- a weaker property, a greater bound
  pub bounded-more : {Q : A → Type 0} {m : ℕ} → ((a : A) → P a → Q a) → n ≤ m → Bounded f Q m
  bounded-more k h =
      record {
        has = λ s pos a q e. let (p, l) = b.has s pos a q e in (k a p, omega arith);
        same = λ s s' pos g. b.same s s' pos (agree_less (omega arith) g);
      }

  pub bounded-check : (t : A → Bool) (m : ℕ) → Bounded (check f t m) (λ a. P a × (t a ≡ true)) n
  unfolding check
  bounded-check t m =
      record {
        has = λ s pos a q e.
            then_ok (f.read s pos) (λ a q. tested (t a) m a q) a q e λ c p e₀ e₁.
            let (t₀, t₁, t₂) = tested-ok (t c) m c p a q e₁ in
            let (h, l) = b.has s pos c p e₀ in
            (subst (λ (x : A). P x × (t x ≡ true)) t₁ (h, t₀), omega arith);
        same = λ s s' pos g. ap (λ (r : Res A). and_then r (λ a q. tested (t a) m a q)) (b.same s s' pos g);
      }

module _ {A B : Type 0} (f : Format A) (g : A → Format B) {P : A → Type 0} {Q : A → B → Type 0} {n m : ℕ} where
  -- the second is bounded after each value that the first can have
  pub bounded-pair : Bounded f P n → ((a : A) → P a → Bounded (g a) (Q a) m) → Bounded (pair f g) (λ p. P p.0 × Q p.0 p.1) (n + m)
  unfolding pair
  bounded-pair b c =
      record {
        has = λ s pos x q e.
            then_ok (f.read s pos) _ x q e λ a p e₀ e₁.
            then_ok ((g a).read s p) _ x q e₁ λ y r e₂ e₃.
            let (h, l) = b.has s pos a p e₀ in
            let (i, k) = (c a h).has s p y r e₂ in
            let d : r ≡ q = same_place (a, y) x r q e₃ in
            (subst (λ (z : A × B). P z.0 × Q z.0 z.1) (same-value (a, y) x r q e₃) (h, i), omega arith);
        same = λ s s' pos u.
            agree_then (f.read s pos) (f.read s' pos) _ _ (b.same s s' pos (agree_less (omega arith) u)) λ a p e.
            let (h, l) = b.has s pos a p e in
            ap (λ (r : Res B). and_then r (λ y q. ok (a, y) q)) ((c a h).same s s' p (agree_less (omega arith) u));
      }

module _ {A B : Type 0} (to : B → A) (from : A → B) (f : Format A) {P : A → Type 0} {Q : B → Type 0} {n : ℕ} where
  pub bounded-via : Bounded f P n → ((a : A) → P a → Q (from a)) → Bounded (via to from f) Q n
  unfolding via
  bounded-via b k =
      record {
        has = λ s pos x q e.
            then_ok (f.read s pos) _ x q e λ a p e₀ e₁.
            let (h, l) = b.has s pos a p e₀ in
            let d : p ≡ q = same_place (from a) x p q e₁ in
            (subst Q (same-value (from a) x p q e₁) (k a h), omega arith);
        same = λ s s' pos g. ap (λ (r : Res A). and_then r (λ a q. ok (from a) q)) (b.same s s' pos g);
      }

pub bounded-zeros : {A : Type 0} (f : Format A) {P : A → Type 0} {n : ℕ} → Bounded f P n → (w m : ℕ) → Bounded (zeros f w m) P (n + w)
unfolding zeros
bounded-zeros f b w m = bounded-via _ _ _ (bounded-pair f _ b (λ _ _. bounded-field w (eqb 0) m)) (λ p k. k.0)

module _ {A : Type 0} (f : List A → Format A) {P : List A → A → Type 0} {n : ℕ} (each : (l : List A) → Bounded (f l) (P l) n) where
  rows-place : (c : ℕ) (l : List A) (s : List ℕ) (pos : ℕ) (m : List A) (q : ℕ) → rows_read f s l c pos ≡ ok m q → q ≤ pos + c * n
  unfolding rows_read
  rows-place zero l s pos m q e = omega (arith, same_place l m pos q e)
  rows-place (suc c) l s pos m q e =
      then_ok ((f l).read s pos) _ m q e λ a p e₀ e₁.
      omega (arith, ((each l).has s pos a p e₀).1, rows-place c (l ++ a ∷ []) s p m q e₁, suc-mul c n)

  rows_same : (c : ℕ) (l : List A) (s s' : List ℕ) (pos : ℕ) → SameBits s s' (pos + c * n) → rows_read f s l c pos ≡ rows_read f s' l c pos
  unfolding rows_read
  rows_same zero l s s' pos g = refl
  rows_same (suc c) l s s' pos g =
      agree_then ((f l).read s pos) ((f l).read s' pos) _ _ ((each l).same s s' pos (agree_less (omega (arith, suc-mul c n)) g)) λ a p e.
      rows_same c (l ++ a ∷ []) s s' p (agree_less (omega (arith, ((each l).has s pos a p e).1, suc-mul c n)) g)

  -- at most m rows
  pub bounded-rows : (c m : ℕ) → c ≤ m → Bounded (rows c f) Any (m * n)
  unfolding rows
  bounded-rows c m h =
      let le : c * n ≤ m * n = mul-le-mul_right n h in
      record {
        has = λ s pos l q e. (tt, omega (arith, rows-place c [] s pos l q e));
        same = λ s s' pos g. rows_same c [] s s' pos (agree_less (omega arith) g);
      }

-- a whole file of a format whose bound is at most m bytes
module _ {A : Type 0} (f : Format A) {P : A → Type 0} {n : ℕ} (b : Bounded f P n) (m : ℕ) (h : n ≤ 8 * m) where
  -- a file that is read has at most m bytes
  pub file-short : (s : List ℕ) (a : A) (q : ℕ) → read_file f s ≡ ok a q → length s ≤ m
  unfolding read_file ended
  file-short s a q e =
      then_ok (f.read s 0) _ a q e λ c p e₀ e₁.
      let w = (8 - p % 8) % 8 in
      then_ok ((field w (eqb 0) 3).read s p) _ a q e₁ λ x r e₂ e₃.
      let (t₀, t₁, t₂) = tested-ok (eqb r (8 * length s)) 3 c r a q e₃ in
      let d : r ≡ 8 * length s = eqb-true r (8 * length s) t₀ in
      omega (arith, (b.has s 0 c p e₀).1, ((bounded-field w (eqb 0) 3).has s p x r e₂).1)

  -- longer bytes that agree in the first m read the same
  file-same : (s s' : List ℕ) → SameBits s s' (8 * m) → m < length s → m < length s' → read_file f s ≡ read_file f s'
  unfolding read_file ended
  file-same s s' g l l' =
      agree_then (f.read s 0) (f.read s' 0) _ _ (b.same s s' 0 (agree_less (omega arith) g)) λ a p e.
      let i : p ≤ 0 + n = (b.has s 0 a p e).1 in
      let w = (8 - p % 8) % 8 in
      let j : p + w ≤ 8 * m = omega arith in
      agree_then ((field w (eqb 0) 3).read s p) ((field w (eqb 0) 3).read s' p) _ _ ((bounded-field w (eqb 0) 3).same s s' p (agree_less j g)) λ x r d.
      let k : r ≤ p + w = ((bounded-field w (eqb 0) 3).has s p x r d).1 in
      ap (λ (t : Bool). tested t 3 a r) (ne_eqb r (8 * length s) (λ z. omega arith) ∙ sym (ne_eqb r (8 * length s') (λ z. omega arith)))

  -- what stands beyond the first m + 1 bytes does not matter
  pub file-cut : (s : List ℕ) (k : ℕ) → m < k → read_file f (take k s) ≡ read_file f s
  file-cut s k l = go (dec_le k (length s))
    where
      go : Dec (k ≤ length s) → read_file f (take k s) ≡ read_file f s
      go (yes i) = file-same (take k s) s (agree-take s k m (omega arith) i) (omega (arith, length-take-le k s i)) (omega arith)
      go (no i) = ap (read_file f) (take_all k s (omega arith))
