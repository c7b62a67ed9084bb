-- A holder's value that was read so far, attribute by attribute. In order: the attributes that are left, what is
-- known of the value so far, numbers side by side, and the value when none of its parts is read, one more, a refusal, all of them.
use mathlib.Core.Path.{◌≡◌, refl, sym, ap, subst, ◌∙◌}
use mathlib.Core.Bool.{true}
use mathlib.Core.List.{List, [], ◌∷◌}
use Prim.Native.Nat.{ℕ, suc, ◌+◌, ◌-◌, ◌*◌, ◌^◌, ◌≤◌, ◌<◌}
use native.Mathlib.Nat.{add-mul, mul_assoc, mul-le-mul_left, mul-le-mul_right}
use native.Mathlib.Numerals.{add-one}
use native.Mathlib.Omega.{arith}
use lib.Pow.{pow-add, pow_mono, pow_pos}
use Rattle.bits.specs.Packed.{tab}
use Rattle.bits.proofs.Laws.{number-none}
use Rattle.bits.proofs.Packed.{tab-zero, tab-first}
use Rattle.std.specs.Prelude.{Result, Ok, Err}
use Rattle.refusal.specs.declared.Refusal.{Refusal}
use Rattle.format.specs.Format.{ok, field, within}
use Rattle.format.specs.Reads.{any, res_of, Reads}
use Rattle.format.specs.declared.file_reader.FileReader.{FileReader}
use Rattle.format.proofs.Chain.{no_view, any-is, pair-stops, pair-goes, via-reads, field-holds, refuses}
use Rattle.format.proofs.Fault.{taken-value}
use Rattle.policy.specs.Policy.{Attr, bits_for, codes, width}
use Rattle.policy.specs.File.{value_format}
use Rattle.policy.specs.Rules.{attr_at, attrs_of}
use Rattle.policy.specs.declared.Class.{Class}

-- the attributes of a class from number i on
unfoldable pub rest : Class → ℕ → List Attr
rest c i = tab (attr_at c) i (c.count - i)

rest_all : (c : Class) → rest c 0 ≡ attrs_of c
unfolding rest attrs_of
rest_all c = ap (tab (attr_at c) 0) (let z : c.count - 0 ≡ c.count = omega arith in z)

rest-next : (c : Class) (i : ℕ) → i < c.count → rest c i ≡ attr_at c i ∷ rest c (i + 1)
unfolding rest
rest-next c i h =
    ap (tab (attr_at c) i) (let z : c.count - i ≡ suc (c.count - (i + 1)) = omega arith in z) ∙ tab-first (attr_at c) i (c.count - (i + 1))
    ∙ ap (λ (k : ℕ). attr_at c i ∷ tab (attr_at c) k (c.count - (i + 1))) (sym (add-one i))

rest-none : (c : Class) (i : ℕ) → c.count ≤ i → rest c i ≡ []
unfolding rest
rest-none c i h = ap (tab (attr_at c) i) (let z : c.count - i ≡ 0 = omega arith in z) ∙ tab-zero (attr_at c) i

width-next : (c : Class) (i : ℕ) → i < c.count → width (rest c i) ≡ bits_for (attr_at c i) + width (rest c (i + 1))
unfolding width
width-next c i h = ap width (rest-next c i h)

width-none : (c : Class) (i : ℕ) → c.count ≤ i → width (rest c i) ≡ 0
unfolding width
width-none c i h = ap width (rest-none c i h)

-- by the second reader the values of the first i attributes were read, and they are v: what it reads for the others makes, after v, what the first reads
pub record Partly (c : Class) (r p : FileReader) (v i : ℕ) : Type 0 where
  pub source : p.bits.src ≡ r.bits.src
  pub whole : (q : FileReader) (u : ℕ → ℕ) (m : ℕ) (o : Result ℕ Refusal) → Reads (value_format (rest c i)) m u p q o
      → res_of (λ y. v * 2 ^ width (rest c i) + u y) o q.bits.at ≡ (value_format (attrs_of c)).read r.bits.src.now r.bits.at
  pub wide : width (rest c i) ≤ 8
  pub fits : v * 2 ^ width (rest c i) + 2 ^ width (rest c i) ≤ 256
  pub place : p.bits.at + width (rest c i) ≤ r.bits.at + 8

-- numbers side by side

side : (v a x b y : ℕ) → (v * a + x) * b + y ≡ v * (a * b) + (x * b + y)
side v a x b y = omega (arith, add-mul (v * a) x b, mul_assoc v a b)

side-fits : (v a x b : ℕ) → x < a → v * (a * b) + a * b ≤ 256 → (v * a + x) * b + b ≤ 256
side-fits v a x b h r = omega (arith, side v a x b b, mul-le-mul_right {m = x + 1} {n = a} b (omega arith), add-mul x 1 b)

side-room : (v a b : ℕ) → 0 < b → v * (a * b) + a * b ≤ 256 → v * a + a ≤ 256
side-room v a b h r =
    omega (arith, mul-le-mul_left {m = 1} {n = b} (v * a + a) (omega arith), add-mul (v * a) a b, mul_assoc v a b)

res-same : (v w : ℕ → ℕ) (o : Result ℕ Refusal) (q : ℕ) → ((x : ℕ) → v x ≡ w x) → res_of v o q ≡ res_of w o q
res-same v w (Ok x) q h = ap (λ (y : ℕ). ok y q) (h x)
res-same v w (Err e) q h = refl

module _ (c : Class) (r : FileReader) where
  pub partly-none : width (attrs_of c) ≤ 8 → Partly c r r 0 0
  partly-none h =
      let e : width (rest c 0) ≡ width (attrs_of c) = ap width (rest_all c) in
      record {
        source = refl;
        whole = λ q u m o g.
            res-same (λ y. 0 * 2 ^ width (rest c 0) + u y) u o q.bits.at (λ y. omega arith)
            ∙ g.answer
            ∙ ap (λ (l : List Attr). (value_format l).read r.bits.src.now r.bits.at) (rest_all c);
        wide = omega arith;
        fits = omega (arith, pow_mono {i = width (rest c 0)} {j = 8} (omega arith));
        place = omega arith;
      }

  module _ (p : FileReader) (v i w : ℕ) (h : i < c.count) (k : Partly c r p v i) (e : w ≡ bits_for (attr_at c i)) where
    next-width : width (rest c i) ≡ w + width (rest c (i + 1))
    next-width = omega (arith, width-next c i h)

    next_power : 2 ^ width (rest c i) ≡ 2 ^ w * 2 ^ width (rest c (i + 1))
    next_power = ap (λ (z : ℕ). 2 ^ z) next-width ∙ pow-add 2 w (width (rest c (i + 1)))

    next_fits : v * (2 ^ w * 2 ^ width (rest c (i + 1))) + 2 ^ w * 2 ^ width (rest c (i + 1)) ≤ 256
    next_fits = subst (λ (z : ℕ). v * z + z ≤ 256) next_power k.fits

    -- there is room for one more of w bits
    pub partly-room : (w ≤ 8) × (v * 2 ^ w + 2 ^ w ≤ 256)
    partly-room =
        (omega (arith, next-width, k.wide), side-room v (2 ^ w) (2 ^ width (rest c (i + 1))) (pow_pos (width (rest c (i + 1)))) next_fits)

    module _ (q : FileReader) where
      pub partly-more : (x : ℕ) → Reads (field w (within 0 (codes (attr_at c i))) 6) w (λ y. y) p q (Ok x) → x < 2 ^ w → Partly c r q (v * 2 ^ w + x) (i + 1)
      unfolding value_format
      partly-more x g f =
          let a = attr_at c i in
          let l = rest c (i + 1) in
          let one = rw e at g in
          record {
            source = g.source ∙ k.source;
            whole = λ q' u m o n.
                let both = via-reads _ _ _ (pair-goes (field (bits_for a) (within 0 (codes a)) 6) (λ _. value_format l) one n) in
                let next = rest-next c i h in
                res-same (λ y. (v * 2 ^ w + x) * 2 ^ width l + u y) (λ y. v * 2 ^ width (rest c i) + (x * 2 ^ width l + u y)) o q'.bits.at
                (λ y. side v (2 ^ w) x (2 ^ width l) (u y) ∙ ap (λ (z : ℕ). v * z + (x * 2 ^ width l + u y)) (sym next_power))
                ∙ k.whole q' (λ y. x * 2 ^ width l + u y) (bits_for a + m) o (rw next both);
            wide = omega (arith, next-width, k.wide);
            fits = side-fits v (2 ^ w) x (2 ^ width l) f next_fits;
            place = omega (arith, next-width, k.place, g.near);
          }

      pub partly-stops : {D : Type 0} {u : D → ℕ} {x : Refusal} → Reads (field w (within 0 (codes (attr_at c i))) 6) w u p q (Err x) → Reads (value_format (attrs_of c)) 8 no_view r q (Err x)
      unfolding value_format
      partly-stops {x} g =
          let a = attr_at c i in
          let l = rest c (i + 1) in
          let one = rw e at g in
          let both = via-reads _ _ _ (pair-stops (field (bits_for a) (within 0 (codes a)) 6) (λ _. value_format l) one) in
          let next = rest-next c i h in
          record {
            answer = k.whole q (λ y. y) w (Err x) (rw next (refuses w both (omega arith)));
            source = g.source ∙ k.source;
            near = omega (arith, next-width, k.place, g.near);
          }

  module _ (p : FileReader) (v i : ℕ) (h : c.count ≤ i) (k : Partly c r p v i) where
    last-power : 2 ^ width (rest c i) ≡ 1
    last-power = ap (λ (z : ℕ). 2 ^ z) (width-none c i h)

    pub partly-below : v < 256
    partly-below =
        let f : v * 1 + 1 ≤ 256 = subst (λ (z : ℕ). v * z + z ≤ 256) last-power k.fits in
        omega arith

    -- the last field, of no bits, is there
    no_bits : Reads (any 0) 0 (λ y. y) p p (Ok 0)
    no_bits =
        record {
          answer =
              ap (ok 0) (let z : p.bits.at ≡ p.bits.at + 0 = omega arith in z)
              ∙ ap (λ (x : ℕ). ok x (p.bits.at + 0)) (sym (number-none p.bits.src.now p.bits.at))
              ∙ sym (any-is 0 p.bits.src.now p.bits.at ∙ taken-value p.bits.src.now p.bits.at 0 (omega (arith, p.inside)));
          source = refl;
          near = omega arith;
        }

    pub partly-all : Reads (value_format (attrs_of c)) 8 (λ y. y) r p (Ok v)
    unfolding value_format
    partly-all =
        let none : Reads (value_format []) 0 (λ y. y) p p (Ok 0) = field-holds 0 (λ _. true) 6 no_bits refl in
        let same : v ≡ v * 1 + 0 = omega arith in
        record {
          answer =
              ap (λ (z : ℕ). ok z p.bits.at) (same ∙ ap (λ (z : ℕ). v * z + 0) (sym last-power))
              ∙ k.whole p (λ y. y) 0 (Ok 0) (rw (rest-none c i h) none);
          source = k.source;
          near = omega (arith, k.place);
        }
