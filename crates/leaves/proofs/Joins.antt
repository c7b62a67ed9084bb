-- Laws of comparisons by the values of a field. In order: the sides of a comparison; a row where it is asked for; the rows of the values that a comparison holds of,
-- one after another; operands with few values; the number of an operand in a lane; operands that no lane changes; lane by lane.
use mathlib.Core.Path.{◌≡◌, refl, sym, ap, ap₂, ◌∙◌, subst}
use mathlib.Core.Bool.{Bool, true, false, ◌&&◌, ◌||◌, and-true, and-false, or-false}
use mathlib.Core.List.{List}
use Prim.Native.Nat.{ℕ, ◌+◌, ◌*◌, ◌/◌, ◌%◌, ◌^◌, ◌≤◌, ◌<◌}
use native.Mathlib.Decide.{ℕ_discrete, dec_lt}
use native.Mathlib.Nat.{zero-add, zero-mul, zero-div, div-eq_of_lt}
use native.Mathlib.Omega.{arith}
use borrow.Author.Tests.{lt-ltb, le-ltb, eq-eqb, ne_eqb}
use lib.Dec.{ltb, eqb}
use lib.Pow.{pow_mono, shl_exact, shl_lt}
use lib.ListN.{length}
use Rattle.lanes.specs.Lanes.{lane_of, Lanes}
use Rattle.lanes.proofs.Laws.{lanes-as, lanes-own, lanes-or}
use Rattle.formulas.specs.Parts.{compared_by}
use Rattle.planes.specs.Word.{number_in, compared_in}
use Rattle.planes.specs.declared.operand.Operand.{Operand}
use Rattle.planes.proofs.Numbers.{number-plain}
use Rattle.bitsets.specs.Rows.{bit_at}
use Rattle.sides.specs.Side.{operand_at}
use Rattle.sides.specs.declared.Field.{Field}
use Rattle.leaves.specs.Values.{Hot, sided}
use Rattle.leaves.specs.Ways.{Few}
use Rattle.sides.specs.declared.Side.{Side}

pub sided-second : (second : Bool) (op x m y n : ℕ) → second ≡ true → compared_by op y n x m ≡ sided second op x m y n
unfolding sided
sided-second second op x m y n e = rw e refl

pub sided-first : (second : Bool) (op x m y n : ℕ) → second ≡ false → compared_by op x m y n ≡ sided second op x m y n
unfolding sided
sided-first second op x m y n e = rw e refl

module _ (f : ℕ → Bool) (on : Bool) where
  pub with-taken : (y r x : List ℕ) → on ≡ true → Lanes f y → length r ≡ 4 → Lanes (λ v. lane_of y v || lane_of r v) x → Lanes (λ v. on && f v || lane_of r v) x
  with-taken y r x e Y l X = lanes-as _ _ x (lanes-or _ _ y r x Y (lanes-own r l) X) (λ v h. sym (ap (λ (b : Bool). b && f v || lane_of r v) e))

  pub with-left : (r : List ℕ) → on ≡ false → length r ≡ 4 → Lanes (λ v. on && f v || lane_of r v) r
  with-left r e l = lanes-as _ _ r (lanes-own r l) (λ v h. sym (ap (λ (b : Bool). b && f v || lane_of r v) e))

-- g holds of a value up to x: of x itself, or of one below
one_value : (g : ℕ → Bool) (f x : ℕ) → g x && eqb f x || (ltb f x && g f) ≡ ltb f (x + 1) && g f
one_value g f x = go (dec_lt f x) (ℕ_discrete f x)
  where
    go : Dec (f < x) → Dec (f ≡ x) → g x && eqb f x || (ltb f x && g f) ≡ ltb f (x + 1) && g f
    go (yes l) d = rw (lt-ltb f x l, lt-ltb f (x + 1) (omega arith), ne_eqb f x (λ z. omega arith), and-false (g x)) refl
    go (no l) (yes e) = rw (le-ltb f x (omega arith), lt-ltb f (x + 1) (omega arith), eq-eqb f x e) (or-false (g x && true) ∙ and-true (g x) ∙ ap g (sym e))
    go (no l) (no e) = rw (le-ltb f x (omega arith), le-ltb f (x + 1) (omega arith), ne_eqb f x e, and-false (g x)) refl

module _ (F : ℕ → ℕ) (g : ℕ → Bool) (r : List ℕ) where
  pub join-start : Lanes (λ v. false) r → Lanes (λ v. ltb (F v) 0 && g (F v)) r
  join-start R = lanes-as _ _ r R (λ v h. sym (ap (λ (b : Bool). b && g (F v)) (le-ltb (F v) 0 (omega arith))))

  pub join_more : (n x : ℕ) (on : Bool) (t z : List ℕ) → Hot F n t → x < n → on ≡ g x → Lanes (λ v. ltb (F v) x && g (F v)) r
      → Lanes (λ v. on && bit_at t x v || lane_of r v) z → Lanes (λ v. ltb (F v) (x + 1) && g (F v)) z
  join_more n x on t z H l e R Z =
      lanes-as _ _ z Z (λ v h. ap₂ ◌||◌ (ap₂ ◌&&◌ e (H.each x v l h)) (R.each v h) ∙ one_value g (F v) x)

  pub join-end : (n : ℕ) (t : List ℕ) → Hot F n t → Lanes (λ v. ltb (F v) n && g (F v)) r → Lanes (λ v. g (F v)) r
  join-end n t H R = lanes-as _ _ r R (λ v h. ap (λ (b : Bool). b && g (F v)) (lt-ltb (F v) n (H.below v h)))

-- operands of which x is a field of the lane's number with few values
module _ (g : Field) (x y : Side) (hot : List ℕ) (f : Few g x y hot) (op i v : ℕ) where
  number-field : number_in (operand_at x i) v ≡ v / 2 ^ g.shift % 2 ^ g.bits
  unfolding number_in operand_at
  number-field =
      rw f.field
      (ap (λ (q : ℕ). q * 2 ^ g.bits + v / 2 ^ g.shift % 2 ^ g.bits) (zero-div (2 ^ g.bits)) ∙ ap (λ (q : ℕ). q + v / 2 ^ g.shift % 2 ^ g.bits) (zero-mul (2 ^ g.bits))
      ∙ zero-add (v / 2 ^ g.shift % 2 ^ g.bits))

  size-field : (operand_at x i).size ≡ g.size
  unfolding operand_at
  size-field = rw f.field refl

  number-other : number_in (operand_at y i) v ≡ (operand_at y i).number
  number-other = number-plain (operand_at y i) v (f.plain i)

  few-first : sided false op (v / 2 ^ g.shift % 2 ^ g.bits) g.size (operand_at y i).number (operand_at y i).size ≡ compared_in op (operand_at x i) (operand_at y i) v
  unfolding sided compared_in
  few-first = sym (rw (number-field, number-other, size-field) refl)

  few-second : sided true op (v / 2 ^ g.shift % 2 ^ g.bits) g.size (operand_at y i).number (operand_at y i).size ≡ compared_in op (operand_at y i) (operand_at x i) v
  unfolding sided compared_in
  few-second = sym (rw (number-field, number-other, size-field) refl)

-- a comparison by the values of x, where o is the operand of y in row i
module _ (g : Field) (x y : Side) (hot : List ℕ) (f : Few g x y hot) (op i : ℕ) (o : Operand) (r : List ℕ) (e : o ≡ operand_at y i) where
  pub joined-first : Lanes (λ v. sided false op (v / 2 ^ g.shift % 2 ^ g.bits) g.size o.number o.size) r → Lanes (compared_in op (operand_at x i) (operand_at y i)) r
  joined-first L = lanes-as _ _ r (subst (λ (o : Operand). Lanes (λ v. sided false op (v / 2 ^ g.shift % 2 ^ g.bits) g.size o.number o.size) r) e L) (λ v h. few-first g x y hot f op i v)

  pub joined-second : Lanes (λ v. sided true op (v / 2 ^ g.shift % 2 ^ g.bits) g.size o.number o.size) r → Lanes (compared_in op (operand_at y i) (operand_at x i)) r
  joined-second L = lanes-as _ _ r (subst (λ (o : Operand). Lanes (λ v. sided true op (v / 2 ^ g.shift % 2 ^ g.bits) g.size o.number o.size) r) e L) (λ v h. few-second g x y hot f op i v)

-- the number of an operand in a lane: its field, and above it what is left of one number
module _ (o : Operand) (v : ℕ) where
  pub number-wide : o.number < 256 → 8 ≤ o.bits → v / 2 ^ o.shift % 2 ^ o.bits ≡ number_in o v
  unfolding number_in
  number-wide b h =
      let e : o.number / 2 ^ o.bits ≡ 0 = div-eq_of_lt (omega (arith, pow_mono {i = 8} {j = o.bits} h)) in
      sym (ap (λ (q : ℕ). q * 2 ^ o.bits + v / 2 ^ o.shift % 2 ^ o.bits) e ∙ ap (λ (q : ℕ). q + v / 2 ^ o.shift % 2 ^ o.bits) (zero-mul (2 ^ o.bits)) ∙ zero-add (v / 2 ^ o.shift % 2 ^ o.bits))

  module _ (h : ℕ) (l : h < 256) (b : o.bits < 8) where
    shifted : h * 2 ^ o.bits % 2 ^ 64 ≡ h * 2 ^ o.bits
    shifted = shl_exact {a = h} 8 o.bits 64 (omega arith) (omega arith)

    pub shifted-few : h * 2 ^ o.bits % 2 ^ 64 < 65536
    shifted-few = omega (arith, shifted, shl_lt {a = h} 8 o.bits (omega arith), pow_mono {i = 8 + o.bits} {j = 16} (omega arith))

    pub number-narrow : h ≡ o.number / 2 ^ o.bits → h * 2 ^ o.bits % 2 ^ 64 + v / 2 ^ o.shift % 2 ^ o.bits ≡ number_in o v
    unfolding number_in
    number-narrow e = ap (λ (q : ℕ). q + v / 2 ^ o.shift % 2 ^ o.bits) (shifted ∙ ap (λ (q : ℕ). q * 2 ^ o.bits) e)

-- what a comparison says of the numbers of its operands in a lane
pub number-says : (op : ℕ) (x y : Operand) (v : ℕ) → compared_by op (number_in x v) x.size (number_in y v) y.size ≡ compared_in op x y v
unfolding compared_in
number-says op x y v = refl

-- operands that no lane changes
pub plain-operands : (op : ℕ) (x y : Operand) → x.bits ≡ 0 → y.bits ≡ 0 → (v : ℕ) → compared_by op x.number x.size y.number y.size ≡ compared_in op x y v
unfolding compared_in
plain-operands op x y e f v = sym (rw (number-plain x v e, number-plain y v f) refl)

-- lane v where it is asked for
module _ (on : Bool) (v : ℕ) where
  pub lane-taken : (r x : List ℕ) → on ≡ true → Lanes (λ w. lane_of r w || eqb w v) x → Lanes (λ w. lane_of r w || (eqb w v && on)) x
  lane-taken r x e X = lanes-as _ _ x X (λ w h. ap (λ (b : Bool). lane_of r w || b) (sym (ap (λ (b : Bool). eqb w v && b) e ∙ and-true (eqb w v))))

  pub lane-left : (r : List ℕ) → on ≡ false → length r ≡ 4 → Lanes (λ w. lane_of r w || (eqb w v && on)) r
  lane-left r e l =
      lanes-as _ _ r (lanes-own r l)
      (λ w h. sym (ap (λ (b : Bool). lane_of r w || b) (ap (λ (b : Bool). eqb w v && b) e ∙ and-false (eqb w v)) ∙ or-false (lane_of r w)))

-- what f says of the lanes below v, one lane after another
module _ (f : ℕ → Bool) (r : List ℕ) where
  pub below-start : Lanes (λ w. false) r → Lanes (λ w. ltb w 0 && f w) r
  below-start R = lanes-as _ _ r R (λ w h. sym (ap (λ (b : Bool). b && f w) (le-ltb w 0 (omega arith))))

  pub below_more : (v : ℕ) (on : Bool) (z : List ℕ) → on ≡ f v → Lanes (λ w. ltb w v && f w) r → Lanes (λ w. lane_of r w || (eqb w v && on)) z → Lanes (λ w. ltb w (v + 1) && f w) z
  below_more v on z e R Z = lanes-as _ _ z Z (λ w h. ap₂ ◌||◌ (R.each w h) (ap (λ (b : Bool). eqb w v && b) e) ∙ go w (dec_lt w v) (ℕ_discrete w v))
    where
      go : (w : ℕ) → Dec (w < v) → Dec (w ≡ v) → ltb w v && f w || (eqb w v && f v) ≡ ltb w (v + 1) && f w
      go w (yes l) d = rw (lt-ltb w v l, lt-ltb w (v + 1) (omega arith), ne_eqb w v (λ z. omega arith)) (or-false (f w))
      go w (no l) (yes e) = rw (le-ltb w v (omega arith), lt-ltb w (v + 1) (omega arith), eq-eqb w v e) (ap f (sym e))
      go w (no l) (no e) = rw (le-ltb w v (omega arith), le-ltb w (v + 1) (omega arith), ne_eqb w v e) refl

  pub below_end : (n : ℕ) → 256 ≤ n → Lanes (λ w. ltb w n && f w) r → Lanes f r
  below_end n l R = lanes-as _ _ r R (λ w h. ap (λ (b : Bool). b && f w) (lt-ltb w n (omega arith)))
