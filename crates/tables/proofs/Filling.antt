-- Laws of the tables of comparisons. In order: how many values are told apart; how many rows a table has; where tables begin; one table more.
use mathlib.Core.Path.{◌≡◌, refl, sym, ap, ap₂, ◌∙◌, subst}
use mathlib.Core.Bool.{Bool, true, false}
use mathlib.Core.List.{List}
use Prim.Native.Nat.{ℕ, ◌+◌, ◌*◌, ◌^◌, ◌%◌, ◌≤◌, ◌<◌, min}
use native.Mathlib.Nat.{add-mul, mul-le-mul_right, mul-le-mul, min-eq_left, min-eq_right}
use native.Mathlib.Decide.{dec_lt}
use native.Mathlib.Omega.{arith}
use borrow.Author.Tests.{lt-ltb, le-ltb}
use lib.ListN.{get_or}
use lib.Pow.{pow_mono, shl_exact}
use Rattle.policy.specs.Policy.{Lists, width}
use Rattle.policy.specs.Nodes.{op_of, of_holder}
use Rattle.bitsets.specs.Rows.{bit_at, Rows, put_from}
use Rattle.bitsets.proofs.Rows.{put_from-before, put_from-inside}
use Rattle.sides.specs.Leaf.{leaf}
use Rattle.prepared.specs.Prepared.{table_at, room_of, lane_for, row_for, rows_for}
use Rattle.tables.specs.Tables.{Table, Tables}

module _ (c : Lists) (h : ℕ) where
  pub room-none : 5 ≤ h → room_of c h ≡ 1
  unfolding room_of
  room-none l = simp (le-ltb h 5 l)

  room-is : h < 5 → room_of c h ≡ min (2 ^ width (of_holder c h)) 256
  unfolding room_of
  room-is l = simp (lt-ltb h 5 l)

  -- 1 shifted by its bits, of which at most 8 count
  pub room-shifted : (w k : ℕ) → h < 5 → w ≡ width (of_holder c h) → k ≡ min w 8 → (1 * 2 ^ k) % 2 ^ 64 ≡ room_of c h
  room-shifted w k l e d = shl_exact {a = 1} 1 k 64 (omega arith) (omega arith) ∙ one ∙ go (dec_lt w 8) ∙ sym room
    where
      one : 1 * 2 ^ k ≡ 2 ^ k
      one = omega arith

      room : room_of c h ≡ min (2 ^ w) 256
      room = room-is l ∙ ap (λ (j : ℕ). min (2 ^ j) 256) (sym e)

      go : Dec (w < 8) → 2 ^ k ≡ min (2 ^ w) 256
      go (yes q) = let z : k ≡ w = omega arith in ap (λ (j : ℕ). 2 ^ j) z ∙ sym (min-eq_left (pow_mono {i = w} {j = 8} (omega arith)))
      go (no q) = let z : k ≡ 8 = omega arith in ap (λ (j : ℕ). 2 ^ j) z ∙ sym (min-eq_right (pow_mono {i = 8} {j = w} (omega arith)))

module _ (c : Lists) (L R O : ℕ) where
  -- it has no more rows than there is room for
  pub rows_few : (room : ℕ) → 0 < room → room_of c R ≤ room → room_of c O ≤ room → (lanes rows outer : Bool)
      → rows_for c L R O lanes rows outer ≤ room
  unfolding rows_for row_for
  rows_few room z f g true true outer = f
  rows_few room z f g true false true = g
  rows_few room z f g true false false = z
  rows_few room z f g false true true = g
  rows_few room z f g false true false = z
  rows_few room z f g false false outer = z

-- where the tables begin
module _ (room : ℕ) where
  times_more : (k : ℕ) → (k + 1) * room ≡ k * room + room
  times_more k = add-mul k 1 room ∙ omega arith

  pub times-later : (j k : ℕ) → j < k → j * room + room ≤ k * room
  times-later j k l = omega (arith, times_more j, mul-le-mul_right {m = j + 1} {n = k} room (omega arith))

  pub times-few : (k : ℕ) → k < 64 → room ≤ 256 → k * room ≤ 16128
  times-few k l h = mul-le-mul {n₁ = k} {m₁ = room} {n₂ = 63} {m₂ = 256} (omega arith) h

  pub table_is : (k : ℕ) → table_at room k ≡ 193 + k * room
  unfolding table_at
  table_is k = refl

-- the rows of a node's table are those of the leaf
module _ (c : Lists) (L R O : ℕ) (lanes rows outer : Bool) (node base : ℕ) where
  pub table_none : (t : List ℕ) → op_of node < 5 → Table c L R O lanes rows outer node base t t
  table_none t l = record { kept = λ a v p h. refl; each = λ i v h o p. absurd (omega (arith, l, o)) }

  pub table_filled : (count a b : ℕ) (old new : List ℕ) → count ≡ rows_for c L R O lanes rows outer → a ≡ lane_for L R O lanes rows
      → b ≡ row_for L R O lanes rows → Rows (put_from base count (leaf c a b node) (bit_at old)) new
      → Table c L R O lanes rows outer node base old new
  table_filled count a b old new m p q F =
      record {
        kept = λ r v l h. F.each r v h ∙ put_from-before base count (leaf c a b node) (bit_at old) r v l;
        each = λ i v h o l.
            F.each (base + i) v h ∙ put_from-inside base count (leaf c a b node) (bit_at old) (base + i) v (omega arith) (omega (arith, m, l))
            ∙ ap (λ (j : ℕ). leaf c a b node j v) (omega arith) ∙ ap₂ (λ (x y : ℕ). leaf c x y node i v) p q;
      }

module _ (c : Lists) (L R O : ℕ) (lanes rows outer : List Bool) (node : ℕ → ℕ) (room : ℕ) where
  pub tables_start : (t : List ℕ) → Tables c L R O lanes rows outer node room 0 t t
  tables_start t = record { kept = λ a v p h. refl; each = λ k i v l h o p. absurd (omega arith) }

  -- the table of node k says what its comparison says
  abbrev Said : List ℕ → ℕ → ℕ → ℕ → Type 0
  Said t i v k =
      5 ≤ op_of (node k) → i < rows_for c L R O (get_or lanes k false) (get_or rows k false) (get_or outer k false)
      → bit_at t (table_at room k + i) v
      ≡ leaf c (lane_for L R O (get_or lanes k false) (get_or rows k false)) (row_for L R O (get_or lanes k false) (get_or rows k false)) (node k) i v

  -- one table more
  pub tables_more : (n base x : ℕ) (first old new : List ℕ) → base ≡ table_at room n → x ≡ node n → 0 < room → room_of c R ≤ room → room_of c O ≤ room
      → Tables c L R O lanes rows outer node room n first old
      → Table c L R O (get_or lanes n false) (get_or rows n false) (get_or outer n false) x base old new
      → Tables c L R O lanes rows outer node room (n + 1) first new
  tables_more n base x first old new e d z f g T N =
      record {
        kept = λ a v p h. N.kept a v (omega (arith, e, table_is room n)) h ∙ T.kept a v p h;
        each = λ k i v l h o p. go k i v l h (dec_lt k n) o p;
      }
    where
      last : (i v : ℕ) → v < 256 → Said new i v n
      last i v h o p =
          let a = lane_for L R O (get_or lanes n false) (get_or rows n false) in
          let b = row_for L R O (get_or lanes n false) (get_or rows n false) in
          ap (λ (y : ℕ). bit_at new (y + i) v) (sym e) ∙ N.each i v h (subst (λ (y : ℕ). 5 ≤ op_of y) (sym d) o) p
          ∙ ap (λ (y : ℕ). leaf c a b y i v) d

      go : (k i v : ℕ) → k < n + 1 → v < 256 → Dec (k < n) → Said new i v k
      go k i v l h (yes q) o p =
          let few = rows_few c L R O room z f g (get_or lanes k false) (get_or rows k false) (get_or outer k false) in
          N.kept (table_at room k + i) v (omega (arith, e, table_is room n, table_is room k, times-later room k n q, p, few)) h ∙ T.each k i v q h o p
      go k i v l h (no q) o p = let m : n ≡ k = omega arith in subst (Said new i v) m (last i v h) o p
