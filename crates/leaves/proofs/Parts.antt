-- Laws of rows by the values of a field. In order: the bits of the lanes' numbers; rows parted, one after another; the rows of a field with one bit more.
use mathlib.Core.Path.{◌≡◌, refl, sym, ap, ap₂, ◌∙◌, subst}
use mathlib.Core.Bool.{Bool, true, false, not, ◌&&◌, xor, cond, and-true, and-false}
use mathlib.Core.List.{List, [], ◌∷◌}
use lib.ListN.{get_or, length, replicate}
use Prim.Native.Nat.{ℕ, ◌+◌, ◌-◌, ◌*◌, ◌/◌, ◌%◌, ◌^◌, ◌≤◌, ◌<◌}
use native.Mathlib.Decide.{ℕ_discrete, dec_lt}
use native.Mathlib.Nat.{mod-lt, zero-mul, zero-add, one-mul}
use native.Mathlib.Omega.{arith}
use borrow.Author.Tests.{lt-ltb, le-ltb, le-leb, lt-leb, eq-eqb, ne_eqb}
use lib.Dec.{eqb}
use lib.Pow.{pow_pos, pow-add, shr-shr, mod-pow-add}
use Rattle.lanes.specs.Lanes.{bit_of, lane_of, Lanes, some_below}
use Rattle.lanes.proofs.Laws.{some-none}
use Rattle.planes.proofs.Numbers.{bit-out}
use Rattle.bitsets.specs.Rows.{bit_at, Rows, put}
use Rattle.leaves.specs.Values.{Hot, parted}

-- bit n of the lanes' numbers
abbrev words : ℕ → List ℕ
words n =
    get_or (
    replicate 4 12297829382473034410
    ∷ replicate 4 14757395258967641292
    ∷ replicate 4 17361641481138401520
    ∷ replicate 4 18374966859414961920
    ∷ replicate 4 18446462603027742720
    ∷ replicate 4 18446744069414584320
    ∷ (0 ∷ 18446744073709551615 ∷ 0 ∷ 18446744073709551615 ∷ [])
    ∷ (0 ∷ 0 ∷ 18446744073709551615 ∷ 18446744073709551615 ∷ [])
    ∷ []
    ) n []

-- computed: all eight bits of all lanes
bits-checked : some_below (λ k. some_below (λ v. xor (lane_of (words k) v) (bit_of v k)) 256) 8 ≡ false
unfolding some_below lane_of bit_of xor
bits-checked = refl

same : (a b : Bool) → xor a b ≡ false → a ≡ b
unfolding xor
same true true e = refl
same true false e = e
same false true e = sym e
same false false e = refl

pub bits_are : (k n : ℕ) → k ≡ n → length (words n) ≡ 4 → n < 8 → Lanes (λ v. bit_of v k) (words n)
bits_are k n e l h = record {
  long = l;
  each = λ v g.
      same _ _
      (some-none (λ v. xor (lane_of (words n) v) (bit_of v n)) 256
      (some-none (λ k. some_below (λ v. xor (lane_of (words k) v) (bit_of v k)) 256) 8 bits-checked n h) v g)
      ∙ ap (bit_of v) (sym e);
}

-- a lane's number has eight bits
pub bits-past : (k v : ℕ) → 8 ≤ k → v < 256 → false ≡ bit_of v k
bits-past k v hk hv = sym (bit-out v 8 k hv hk)

-- a row stored after another
pub put-put : (k m : ℕ) (f g : ℕ → Bool) (A : ℕ → ℕ → Bool) (t u : List ℕ) → Rows (put m g A) t → Rows (put k f (bit_at t)) u → Rows (put k f (put m g A)) u
unfolding put
put-put k m f g A t u T U = record { each = λ a v h. U.each a v h ∙ ap (λ (b : Bool). cond (eqb a k) (f v) b) (T.each a v h) }

-- rows that are stored are known by their bits
pub put_as : (k : ℕ) (f g : ℕ → Bool) (A B : ℕ → ℕ → Bool) (t : List ℕ) → Rows (put k f A) t → ((v : ℕ) → v < 256 → f v ≡ g v) → ((a v : ℕ) → v < 256 → A a v ≡ B a v)
    → Rows (put k g B) t
unfolding put
put_as k f g A B t R e d = record { each = λ a v h. R.each a v h ∙ ap₂ (λ (x y : Bool). cond (eqb a k) x y) (e v h) (d a v h) }

module _ (n : ℕ) (P : ℕ → Bool) (A : ℕ → ℕ → Bool) where
  parted-low : (z a v : ℕ) → a < z → parted n z P A a v ≡ A a v && not (P v)
  unfolding parted
  parted-low z a v h = simp (lt-ltb a z h)

  parted-high : (z a v : ℕ) → z ≤ a → n ≤ a → a < n + z → parted n z P A a v ≡ A (a - n) v && P v
  unfolding parted
  parted-high z a v h l m = simp (le-ltb a z h, le-leb n a l, lt-ltb a (n + z) m)

  parted-before : (z a v : ℕ) → z ≤ a → a < n → parted n z P A a v ≡ A a v
  unfolding parted
  parted-before z a v h l = simp (le-ltb a z h, lt-leb n a l)

  parted-past : (z a v : ℕ) → z ≤ a → n + z ≤ a → parted n z P A a v ≡ A a v
  unfolding parted
  parted-past z a v h l = simp (le-ltb a z h, le-leb n a (omega arith), le-ltb a (n + z) l)

  pub parted-start : (t : List ℕ) → Rows A t → Rows (parted n 0 P A) t
  parted-start t R = record { each = λ a v h. R.each a v h ∙ go a v (dec_lt a n) }
    where
      go : (a v : ℕ) → Dec (a < n) → A a v ≡ parted n 0 P A a v
      go a v (yes l) = sym (parted-before 0 a v (omega arith) l)
      go a v (no l) = sym (parted-past 0 a v (omega arith) (omega arith))

  pub parted-more : (z : ℕ) (t u : List ℕ) → z < n → Rows (parted n z P A) t
      → Rows (put z (λ v. bit_at t z v && not (P v)) (put (n + z) (λ v. bit_at t z v && P v) (bit_at t))) u → Rows (parted n (z + 1) P A) u
  unfolding put
  parted-more z t u l T U =
      record { each = λ a v h. U.each a v h ∙ go a v h (ℕ_discrete a z) (ℕ_discrete a (n + z)) (dec_lt a z) (dec_lt a n) (dec_lt a (n + z)) }
    where
      own : (v : ℕ) → v < 256 → bit_at t z v ≡ A z v
      own v h = T.each z v h ∙ parted-before z z v (omega arith) l

      new : ℕ → ℕ → Bool
      new a v = cond (eqb a z) (bit_at t z v && not (P v)) (cond (eqb a (n + z)) (bit_at t z v && P v) (bit_at t a v))

      other : (a v : ℕ) → (a ≡ z → ⊥) → (a ≡ n + z → ⊥) → new a v ≡ bit_at t a v
      other a v p q = rw (ne_eqb a z p, ne_eqb a (n + z) q) refl

      go : (a v : ℕ) → v < 256 → Dec (a ≡ z) → Dec (a ≡ n + z) → Dec (a < z) → Dec (a < n) → Dec (a < n + z) → new a v ≡ parted n (z + 1) P A a v
      go a v h (yes e) d w x y =
          rw (eq-eqb a z e) (ap (λ (b : Bool). b && not (P v)) (own v h ∙ ap (λ (k : ℕ). A k v) (sym e)))
          ∙ sym (parted-low (z + 1) a v (omega arith))
      go a v h (no e) (yes d) w x y =
          let k : z ≡ a - n = omega arith in
          rw (ne_eqb a z e, eq-eqb a (n + z) d) (ap (λ (b : Bool). b && P v) (own v h ∙ ap (λ (k : ℕ). A k v) k))
          ∙ sym (parted-high (z + 1) a v (omega arith) (omega arith) (omega arith))
      go a v h (no e) (no d) (yes w) x y = other a v e d ∙ T.each a v h ∙ parted-low z a v w ∙ sym (parted-low (z + 1) a v (omega arith))
      go a v h (no e) (no d) (no w) (yes x) y =
          other a v e d ∙ T.each a v h ∙ parted-before z a v (omega arith) x ∙ sym (parted-before (z + 1) a v (omega arith) x)
      go a v h (no e) (no d) (no w) (no x) (yes y) =
          other a v e d ∙ T.each a v h ∙ parted-high z a v (omega arith) (omega arith) y
          ∙ sym (parted-high (z + 1) a v (omega arith) (omega arith) (omega arith))
      go a v h (no e) (no d) (no w) (no x) (no y) =
          other a v e d ∙ T.each a v h ∙ parted-past z a v (omega arith) (omega arith) ∙ sym (parted-past (z + 1) a v (omega arith) (omega arith))

-- a number is x, by what is left of it without n
below-is : (n f x : ℕ) (b : Bool) → f < n → x < n → eqb f x && not b ≡ eqb (cond b (n + f) f) x
below-is n f x true h l = and-false (eqb f x) ∙ sym (ne_eqb (n + f) x (λ e. omega arith))
below-is n f x false h l = and-true (eqb f x)

above-is : (n f x : ℕ) (b : Bool) → f < n → n ≤ x → eqb f (x - n) && b ≡ eqb (cond b (n + f) f) x
above-is n f x true h l = and-true (eqb f (x - n)) ∙ go (ℕ_discrete f (x - n))
  where
    go : Dec (f ≡ x - n) → eqb f (x - n) ≡ eqb (n + f) x
    go (yes e) = eq-eqb f (x - n) e ∙ sym (eq-eqb (n + f) x (omega arith))
    go (no e) = ne_eqb f (x - n) e ∙ sym (ne_eqb (n + f) x (λ d. e (omega arith)))
above-is n f x false h l = and-false (eqb f (x - n)) ∙ sym (ne_eqb f x (λ e. omega arith))

-- the rows of the values of F, parted by one bit more
hot-parted : (F G : ℕ → ℕ) (n m : ℕ) (P : ℕ → Bool) (t u : List ℕ) → Hot F n t → Rows (parted n n P (bit_at t)) u → m ≡ n + n
    → ((v : ℕ) → v < 256 → G v ≡ cond (P v) (n + F v) (F v)) → Hot G m u
hot-parted F G n m P t u H R e g =
    record {
      below = λ v h. less v h (P v) (g v h);
      each = λ x v l h. R.each x v h ∙ go x v l h (dec_lt x n) ∙ ap (λ (k : ℕ). eqb k x) (sym (g v h));
    }
  where
    less : (v : ℕ) → v < 256 → (b : Bool) → G v ≡ cond b (n + F v) (F v) → G v < m
    less v h true d = omega (arith, H.below v h)
    less v h false d = omega (arith, H.below v h)

    go : (x v : ℕ) → x < m → v < 256 → Dec (x < n) → parted n n P (bit_at t) x v ≡ eqb (cond (P v) (n + F v) (F v)) x
    go x v l h (yes d) =
        parted-low n P (bit_at t) n x v d ∙ ap (λ (b : Bool). b && not (P v)) (H.each x v d h) ∙ below-is n (F v) x (P v) (H.below v h) d
    go x v l h (no d) =
        parted-high n P (bit_at t) n x v (omega arith) (omega arith) (omega arith) ∙ ap (λ (b : Bool). b && P v) (H.each (x - n) v (omega arith) h)
        ∙ above-is n (F v) x (P v) (H.below v h) (omega arith)

-- a field with one bit more, on the left
field-more : (v s k : ℕ) → v / 2 ^ s % 2 ^ (k + 1) ≡ cond (bit_of v (s + k)) (2 ^ k + v / 2 ^ s % 2 ^ k) (v / 2 ^ s % 2 ^ k)
unfolding bit_of
field-more v s k =
    let a = v / 2 ^ s in
    let o : k + 1 ≡ 1 + k = omega arith in
    let e : a % 2 ^ (k + 1) ≡ (a / 2 ^ k % 2 ^ 1) * 2 ^ k + a % 2 ^ k = ap (λ (n : ℕ). a % 2 ^ n) o ∙ mod-pow-add a 1 k in
    e ∙ ap (λ (q : ℕ). (q % 2) * 2 ^ k + a % 2 ^ k) (shr-shr v s k) ∙ go (v / 2 ^ (s + k) % 2) (2 ^ k) (a % 2 ^ k) (omega arith) (ℕ_discrete (v / 2 ^ (s + k) % 2) 1)
  where
    go : (q p r : ℕ) → q < 2 → Dec (q ≡ 1) → q * p + r ≡ cond (eqb q 1) (p + r) r
    go q p r h (yes e) = rw (eq-eqb q 1 e) (ap (λ (z : ℕ). z * p + r) e ∙ ap (λ (z : ℕ). z + r) (one-mul p))
    go q p r h (no e) = let z : q ≡ 0 = omega arith in rw (ne_eqb q 1 e) (ap (λ (y : ℕ). y * p + r) z ∙ ap (λ (y : ℕ). y + r) (zero-mul p) ∙ zero-add r)

module _ (s : ℕ) where
  -- a field of no bits has one value
  pub hot-start : (r t : List ℕ) (A : ℕ → ℕ → Bool) → Lanes (λ v. true) r → Rows (put 0 (lane_of r) A) t → Hot (λ v. v / 2 ^ s % 2 ^ 0) (2 ^ 0) t
  unfolding put
  hot-start r t A L R =
      record {
        below = λ v h. mod-lt (v / 2 ^ s) (pow_pos 0);
        each = λ x v l h.
            R.each x v h ∙ ap (λ (b : Bool). cond b (lane_of r v) (A x v)) (eq-eqb x 0 (omega arith)) ∙ L.each v h
            ∙ sym (eq-eqb (v / 2 ^ s % 2 ^ 0) x (omega arith));
      }

  pub hot-more : (k n : ℕ) (p t u : List ℕ) → n ≡ 2 ^ k → Lanes (λ v. bit_of v (s + k)) p → Hot (λ v. v / 2 ^ s % 2 ^ k) (2 ^ k) t → Rows (parted n n (lane_of p) (bit_at t)) u
      → Hot (λ v. v / 2 ^ s % 2 ^ (k + 1)) (2 ^ (k + 1)) u
  hot-more k n p t u e L H R =
      hot-parted (λ v. v / 2 ^ s % 2 ^ k) (λ v. v / 2 ^ s % 2 ^ (k + 1)) (2 ^ k) (2 ^ (k + 1)) (lane_of p) t u H
      (subst (λ (m : ℕ). Rows (parted m m (lane_of p) (bit_at t)) u) e R) (pow-add 2 k 1 ∙ twice (2 ^ k))
      (λ v h. field-more v s k ∙ ap (λ (b : Bool). cond b (2 ^ k + v / 2 ^ s % 2 ^ k) (v / 2 ^ s % 2 ^ k)) (sym (L.each v h)))
    where
      twice : (m : ℕ) → m * 2 ^ 1 ≡ m + m
      twice m = omega arith
