-- Laws of numbers that are values of a class. In order: codes of an attribute; a field cut to a byte's bits; one attribute more; all of them.
use mathlib.Core.Path.{◌≡◌, refl, sym, ap, ap₂, ◌∙◌, subst}
use mathlib.Core.Bool.{Bool, true, false, ◌&&◌}
use mathlib.Core.List.{List}
use Prim.Native.Nat.{ℕ, ◌+◌, ◌*◌, ◌/◌, ◌%◌, ◌^◌, ◌≤◌, ◌<◌, min}
use native.Mathlib.Decide.{dec_lt, dec_le}
use native.Mathlib.Nat.{zero-add, zero-mul, mod-lt, mod-eq_of_lt, div-eq_of_lt, min-eq_left, min-eq_right}
use native.Mathlib.Omega.{arith}
use borrow.Author.Tests.{lt-ltb, eq-eqb, ne_eqb}
use lib.Dec.{ltb, eqb}
use lib.ListN.{drop}
use lib.Pow.{pow_pos, pow_mono, split, field, mod-mod-pow}
use Rattle.policy.specs.Policy.{Attr, bits_for, codes, width}
use Rattle.policy.specs.Rules.{attr_at, attrs_of}
use Rattle.policy.specs.declared.Class.{Class}
use Rattle.lists.specs.Lists.{in_lists, listed}
use Rattle.lists.proofs.Laws.{within-is, in-next, in-none, listed_in}
use Rattle.lists.proofs.Narrow.{in-narrow}
use Rattle.planes.specs.Word.{number_in}

module _ (a : Attr) (own x : ℕ) where
  -- every code of a set is one
  pub code-set : (a.kind ≡ 0 → ⊥) → own ≡ bits_for a → ltb (x % 2 ^ own) (codes a) ≡ true
  unfolding bits_for codes
  code-set n e =
      let d : own ≡ a.size = e ∙ simp (ne_eqb a.kind 0 n) in
      simp (ne_eqb a.kind 0 n) (lt-ltb (x % 2 ^ own) (2 ^ a.size) (subst (λ (w : ℕ). x % 2 ^ own < 2 ^ w) d (mod-lt x (pow_pos own))))

  -- a number below its size is a code of an atomic value
  pub code-atomic : a.kind ≡ 0 → ltb (x % 2 ^ own) (codes a) ≡ ltb (x % 2 ^ own) a.size
  unfolding codes
  code-atomic e = simp (eq-eqb a.kind 0 e)

  -- every code of so many bits is one, where the size is their number
  pub code-full : a.kind ≡ 0 → a.size ≡ 2 ^ own → ltb (x % 2 ^ own) (codes a) ≡ true
  code-full e d = code-atomic e ∙ lt-ltb (x % 2 ^ own) a.size (subst (λ (n : ℕ). x % 2 ^ own < n) (sym d) (mod-lt x (pow_pos own)))

-- a byte has nothing above its 8 bits
pub field_cut : (v s b : ℕ) → v < 256 → v / 2 ^ min s 8 % 2 ^ b ≡ v / 2 ^ s % 2 ^ b
field_cut v s b h = go (dec_le s 8)
  where
    go : Dec (s ≤ 8) → v / 2 ^ min s 8 % 2 ^ b ≡ v / 2 ^ s % 2 ^ b
    go (yes l) = ap (λ (k : ℕ). v / 2 ^ k % 2 ^ b) (min-eq_left l)
    go (no l) =
        ap (λ (k : ℕ). v / 2 ^ k % 2 ^ b) (min-eq_right (omega arith))
        ∙ ap (λ (z : ℕ). z % 2 ^ b) (let e : v / 2 ^ 8 ≡ 0 = omega arith in e ∙ sym (div-eq_of_lt (omega (arith, pow_mono {i = 8} {j = s} (omega arith)))))

-- an operand that is a field and nothing else
pub field-number : (v s b m z : ℕ) → v < 256 → m ≡ 0 → number_in record { shift = min s 8; bits = b; number = m; size = z } v ≡ v / 2 ^ s % 2 ^ b
unfolding number_in
field-number v s b m z h e =
    let d : m / 2 ^ b ≡ 0 = div-eq_of_lt (omega (arith, pow_pos b)) in
    let z : m / 2 ^ b * 2 ^ b ≡ 0 = ap (λ (q : ℕ). q * 2 ^ b) d ∙ zero-mul (2 ^ b) in
    ap (λ (q : ℕ). q + v / 2 ^ min s 8 % 2 ^ b) z ∙ zero-add (v / 2 ^ min s 8 % 2 ^ b) ∙ field_cut v s b h

module _ (c : Class) (k v right own : ℕ) (h : k < c.count) (e : right ≡ width (drop (k + 1) (attrs_of c))) where
  -- one attribute more, on the left
  pub in-more : ltb (v / 2 ^ right % 2 ^ own) (codes (attr_at c k)) && in_lists (drop (k + 1) (attrs_of c)) (v % 2 ^ right) ≡ in_lists (drop k (attrs_of c)) (v % 2 ^ (right + own))
  in-more =
      let s : right + own ≡ own + right = omega arith in
      let u = v % 2 ^ (own + right) in
      sym
      (ap (λ (n : ℕ). in_lists (drop k (attrs_of c)) (v % 2 ^ n)) s
      ∙ in-next c k u right h e
      ∙ ap₂ ◌&&◌ (within-is (codes (attr_at c k)) (u / 2 ^ right) ∙ ap (λ (z : ℕ). ltb z (codes (attr_at c k))) (field v own right))
      (ap (in_lists (drop (k + 1) (attrs_of c))) (mod-mod-pow v own right)))

-- with no attribute nothing is left
pub in_start : (c : Class) (v : ℕ) → in_lists (drop c.count (attrs_of c)) (v % 2 ^ 0) ≡ true
in_start c v = in-none c c.count (v % 2 ^ 0) (omega arith) ∙ eq-eqb (v % 2 ^ 0) 0 (omega arith)

pub in_whole : (l : List Attr) (v : ℕ) → v < 256 → eqb (v / 2 ^ width l) 0 && in_lists l (v % 2 ^ width l) ≡ listed l v
in_whole l v h = go (dec_lt v (2 ^ width l)) (in_lists l v) refl ∙ sym (listed_in l v h)
  where
    go : Dec (v < 2 ^ width l) → (b : Bool) → in_lists l v ≡ b → eqb (v / 2 ^ width l) 0 && in_lists l (v % 2 ^ width l) ≡ in_lists l v
    go (yes d) b e = ap₂ ◌&&◌ (eq-eqb (v / 2 ^ width l) 0 (div-eq_of_lt d)) (ap (in_lists l) (mod-eq_of_lt d))
    go (no d) true e = absurd (d (in-narrow l v e))
    go (no d) false e =
        ap (λ (t : Bool). t && in_lists l (v % 2 ^ width l))
        (ne_eqb (v / 2 ^ width l) 0 (λ z. d (omega (arith, split v (width l), mod-lt v (pow_pos (width l)), ap (λ (q : ℕ). q * 2 ^ width l) z))))
        ∙ sym e

-- a number wider than the class is no value of it
pub in-wider : (l : List Attr) (v : ℕ) → v < 256 → 2 ^ width l ≤ v → listed l v ≡ false
in-wider l v h d = listed_in l v h ∙ go (in_lists l v) refl
  where
    go : (b : Bool) → in_lists l v ≡ b → in_lists l v ≡ false
    go true e = absurd (omega (arith, in-narrow l v e))
    go false e = e
