-- Laws of faults and results. In order: a test's fault, the first of two, one result after another,
-- a refusal.
-- Not here: whole formats (Law).
use mathlib.Core.Path.{◌≡◌, refl, sym, ◌∙◌}
use mathlib.Core.Bool.{Bool, true, false}
use mathlib.Core.Logic.{◌⊎◌, inl, inr}
use mathlib.Core.List.{List}
use mathlib.Core.Option.{Option, none, some}
use Prim.Native.Nat.{ℕ, ◌+◌, ◌*◌, ◌≤◌, ◌<◌}
use native.Mathlib.Decide.{dec_le}
use native.Mathlib.Omega.{arith}
use borrow.Author.Tests.{le-leb, lt-leb}
use lib.ListN.{length}
use Rattle.bits.specs.Field.{number_at}
use Rattle.format.specs.Format.{Res, ok, bad, unless, first, tested, and_then, taken}

pub unless-none : (b : Bool) (n : ℕ) → unless b n ≡ none → b ≡ true
unfolding unless
unless-none true n e = refl
unless-none false n e = absurd (let z : ◌≡◌ {A = ℕ} 0 1 = cc in omega arith)

pub none-unless : (b : Bool) (n : ℕ) → b ≡ true → unless b n ≡ none
unfolding unless
none-unless b n e = rw e refl

pub unless-some : (b : Bool) (m n : ℕ) → unless b m ≡ some n → (b ≡ false) × (m ≡ n)
unfolding unless
unless-some true m n e = absurd (let z : ◌≡◌ {A = ℕ} 0 1 = cc in omega arith)
unless-some false m n e = (refl, cc)

pub first-none : (x y : Option ℕ) → first x y ≡ none → (x ≡ none) × (y ≡ none)
unfolding first
first-none none y e = (refl, e)
first-none (some n) y e = (e, absurd (let z : ◌≡◌ {A = ℕ} 0 1 = cc in omega arith))

pub none_first : (x y : Option ℕ) → x ≡ none → y ≡ none → first x y ≡ none
unfolding first
none_first x y e f = rw e f

pub first_some : (x y : Option ℕ) (n : ℕ) → first x y ≡ some n → (x ≡ some n) ⊎ ((x ≡ none) × (y ≡ some n))
unfolding first
first_some none y n e = inr (refl, e)
first_some (some m) y n e = inl e

-- nothing before
pub first-left : (x y : Option ℕ) → x ≡ none → first x y ≡ y
unfolding first
first-left x y e = rw e refl

-- nothing after
pub first-right : (x : Option ℕ) → first x none ≡ x
unfolding first
first-right none = refl
first-right (some n) = refl

pub first-assoc : (x y z : Option ℕ) → first (first x y) z ≡ first x (first y z)
unfolding first
first-assoc none y z = refl
first-assoc (some n) y z = refl

bad-ok : {A : Type 0} (n q : ℕ) (a : A) (r : ℕ) → bad n q ≡ ok a r → ⊥
bad-ok n q a r e = let z : ◌≡◌ {A = ℕ} 0 1 = cc in omega arith

module _ {A B : Type 0} where
  pub then_ok : {C : Type 0} (r : Res A) (k : A → ℕ → Res B) (b : B) (q : ℕ) → and_then r k ≡ ok b q → ((a : A) (p : ℕ) → r ≡ ok a p → k a p ≡ ok b q → C) → C
  unfolding and_then
  then_ok (bad n p) k b q e c = absurd (bad-ok n p b q e)
  then_ok (ok a p) k b q e c = c a p refl e

  pub ok-then : (r : Res A) (k : A → ℕ → Res B) (a : A) (p : ℕ) → r ≡ ok a p → and_then r k ≡ k a p
  unfolding and_then
  ok-then r k a p e = rw e refl

module _ {A : Type 0} where
  pub tested-ok : (b : Bool) (n : ℕ) (a : A) (p : ℕ) (a' : A) (q : ℕ) → tested b n a p ≡ ok a' q → (b ≡ true) × (a ≡ a') × (p ≡ q)
  unfolding tested
  tested-ok true n a p a' q e = (refl, cc, cc)
  tested-ok false n a p a' q e = absurd (bad-ok n p a' q e)

  pub ok-tested : (b : Bool) (n : ℕ) (a : A) (p : ℕ) → b ≡ true → tested b n a p ≡ ok a p
  unfolding tested
  ok-tested b n a p e = rw e refl

pub taken-value : (s : List ℕ) (pos w : ℕ) → pos + w ≤ 8 * length s → taken s pos w ≡ ok (number_at s pos w) (pos + w)
unfolding taken
taken-value s pos w h = simp (le-leb (pos + w) (8 * length s) h)

pub taken-short : (s : List ℕ) (pos w : ℕ) → 8 * length s < pos + w → taken s pos w ≡ bad 1 (8 * length s)
unfolding taken
taken-short s pos w h = simp (lt-leb (pos + w) (8 * length s) h)

pub taken-ok : (s : List ℕ) (pos w x q : ℕ) → taken s pos w ≡ ok x q → (pos + w ≤ 8 * length s) × (number_at s pos w ≡ x) × (pos + w ≡ q)
taken-ok s pos w x q e = go (dec_le (pos + w) (8 * length s))
  where
    go : Dec (pos + w ≤ 8 * length s) → (pos + w ≤ 8 * length s) × (number_at s pos w ≡ x) × (pos + w ≡ q)
    go (yes h) = let f = sym (taken-value s pos w h) ∙ e in (h, cc, cc)
    go (no h) = absurd (bad-ok 1 (8 * length s) x q (sym (taken-short s pos w (omega arith)) ∙ e))

-- refused with n, at some place
pub record BadAt {A : Type 0} (r : Res A) (n : ℕ) : Type 0 where
  pub place : ℕ
  pub is : r ≡ bad n place

pub bad-then : {A B : Type 0} (r : Res A) (k : A → ℕ → Res B) (n : ℕ) → BadAt r n → BadAt (and_then r k) n
unfolding and_then
bad-then r k n b = record { place = b.place; is = rw b.is refl }

pub ok-bad : {A B : Type 0} (r : Res A) (k : A → ℕ → Res B) (a : A) (p n : ℕ) → r ≡ ok a p → BadAt (k a p) n → BadAt (and_then r k) n
ok-bad r k a p n e b = record { place = b.place; is = ok-then r k a p e ∙ b.is }

pub bad-tested : {A : Type 0} (b : Bool) (m n : ℕ) (a : A) (p : ℕ) → b ≡ false → m ≡ n → BadAt (tested b m a p) n
unfolding tested
bad-tested b m n a p e f = record { place = p; is = rw (e, f) refl }
