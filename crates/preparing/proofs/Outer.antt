-- The nodes that depend on neither the lane holder nor the row holder. In order: nodes that are in neither list; their comparisons; what the area says
-- after they are worked out.
use mathlib.Core.Path.{◌≡◌, refl, sym, ap, ap₂, ◌∙◌}
use mathlib.Core.Bool.{Bool, true, false, not, ◌||◌, cond, true≢false}
use mathlib.Core.List.{List}
use mathlib.Core.Logic.{inr}
use Prim.Native.Nat.{ℕ, ◌+◌, ◌≤◌, ◌<◌}
use native.Mathlib.Decide.{ℕ_discrete}
use native.Mathlib.Omega.{arith}
use borrow.Author.Tests.{eq-eqb, ne_eqb}
use lib.Dec.{eqb}
use lib.ListN.{length, get_or}
use Rattle.policy.specs.Policy.{Lists}
use Rattle.policy.specs.Nodes.{op_of}
use Rattle.bitsets.specs.Rows.{bit_at, Rows}
use Rattle.bitsets.specs.Steps.{ran}
use Rattle.dependence.specs.Answers.{answer, leaf_of}
use Rattle.dependence.specs.Depends.{Depends}
use Rattle.dependence.proofs.Depending.{depends-first, depends-second}
use Rattle.dependence.proofs.Operands.{leaf-two}
use Rattle.sides.specs.Leaf.{two, leaf}
use Rattle.prepared.specs.Level.{node_step, steps_of}
use Rattle.prepared.specs.Prepared.{table_at, holders, lane_for, row_for, rows_for}
use Rattle.prepared.proofs.Start.{Start, places_of}
use Rattle.prepared.proofs.Level.{level-right, level-low, level-high}
use Rattle.tables.specs.Tables.{Tables}
use Rattle.tables.proofs.Filling.{table_is}
use Rattle.preparing.proofs.Boards.{table-few}

neither-of : (a b : Bool) → not (a || b) ≡ true → (a ≡ false) × (b ≡ false)
neither-of true b e = absurd (true≢false (sym e))
neither-of false true e = absurd (true≢false (sym e))
neither-of false false e = (refl, refl)

neither-is : (a b : Bool) → a ≡ false → b ≡ false → not (a || b) ≡ true
neither-is a b p q = ap₂ (λ (x y : Bool). not (x || y)) p q

same-either : (n : ℕ) (a b : Bool) → n ≡ cond a n (cond b n n)
same-either n true b = refl
same-either n false true = refl
same-either n false false = refl

module _ (c : Lists) (L R O : ℕ) (p : L ≡ O → ⊥) (q : R ≡ O → ⊥) where
  -- the outer holder's value alone
  value-alone : (v h : ℕ) → two O O v 0 h ≡ cond (eqb h L) 0 (cond (eqb h R) 0 (cond (eqb h O) v 0))
  unfolding two
  value-alone v h = go (ℕ_discrete h O)
    where
      go : Dec (h ≡ O) → cond (eqb h O) v (cond (eqb h O) 0 0) ≡ cond (eqb h L) 0 (cond (eqb h R) 0 (cond (eqb h O) v 0))
      go (yes e) = simp (eq-eqb h O e, ne_eqb h L (λ d. p (sym d ∙ e)), ne_eqb h R (λ d. q (sym d ∙ e)))
      go (no e) = simp (ne_eqb h O e) (same-either 0 (eqb h L) (eqb h R))

  leaf-alone : (nodes : List ℕ) (k v : ℕ) → leaf c O O (get_or nodes k 0) 0 v ≡ leaf_of c nodes (holders L R O v 0 0) k
  unfolding leaf leaf_of holders
  leaf-alone nodes k v = leaf-two c _ _ (get_or nodes k 0) (value-alone v _) (value-alone v _)

lane-outer : (L R O : ℕ) (a b : Bool) → a ≡ false → b ≡ false → lane_for L R O a b ≡ O
unfolding lane_for
lane-outer L R O a b p q = rw (p, q) refl

row-outer : (L R O : ℕ) (a b : Bool) → a ≡ false → row_for L R O a b ≡ O
unfolding row_for
row-outer L R O a b p = rw p refl

rows-alone : (c : Lists) (L R O : ℕ) (a b d : Bool) → a ≡ false → b ≡ false → rows_for c L R O a b d ≡ 1
unfolding rows_for
rows-alone c L R O a b d p q = rw (p, q) refl

-- the area where row 0 had no bit, the tables were filled in, and then these nodes were worked out
module _ (c : Lists) (nodes : List ℕ) (L R O n room : ℕ) (lanes rows outer : List Bool) (p : L ≡ O → ⊥) (q : R ≡ O → ⊥)
    (on-lanes : Depends (λ k. get_or nodes k 0) L n lanes) (on-rows : Depends (λ k. get_or nodes k 0) R n rows) (few : n ≤ 64) (room-few : room ≤ 256)
    (first laid area : List ℕ) (clear : (v : ℕ) → v < 256 → bit_at first 0 v ≡ false)
    (T : Tables c L R O lanes rows outer (λ k. get_or nodes k 0) room n first laid) (steps : List ℕ)
    (S : steps ≡ steps_of (λ k. not (get_or lanes k false || get_or rows k false)) (λ k. node_step 129 65 true false (get_or nodes k 0) k (table_at room k)) n)
    (W : Rows (ran steps 0 0 (length steps) (bit_at laid)) area) where
  neither : ℕ → Bool
  neither k = not (get_or lanes k false || get_or rows k false)

  table-says : (k v : ℕ) → k < n → v < 256 → neither k ≡ true → 5 ≤ op_of (get_or nodes k 0)
      → bit_at laid (table_at room k) v ≡ leaf_of c nodes (holders L R O v 0 0) k
  unfolding neither
  table-says k v l h e o =
      let a = get_or lanes k false in
      let b = get_or rows k false in
      let w = neither-of a b e in
      ap (λ (r : ℕ). bit_at laid r v) (omega arith)
      ∙ T.each k 0 v l h o (omega (arith, rows-alone c L R O a b (get_or outer k false) w.0 w.1))
      ∙ ap₂ (λ (x y : ℕ). leaf c x y (get_or nodes k 0) 0 v) (lane-outer L R O a b w.0 w.1) (row-outer L R O a b w.0)
      ∙ leaf-alone c L R O p q nodes k v

  start : Start c nodes n (λ i. holders L R O i 0 0) 0 129 65 neither (λ k. true) (λ k. false) neither (table_at room) (bit_at laid)
  unfolding neither
  start =
      record {
        places = places_of n 0 129 65 (table_at room) few (omega arith) (omega arith) (omega arith) (omega arith) (inr (omega arith))
            (λ k l. (omega (arith, table_is room k), table-few room k (omega arith) room-few));
        none = λ v h. T.kept 0 v (omega arith) h ∙ clear v h;
        told = λ k v l h e d. absurd (true≢false d);
        taken = λ k v l h e d o x. absurd (true≢false (sym x));
        copied = λ k v l h e d o x. table-says k v l h e o;
        first = λ k l e d a b m.
            let w = neither-of (get_or lanes k false) (get_or rows k false) e in
            neither-is _ _ (depends-first _ L n lanes on-lanes k l w.0 a b m) (depends-first _ R n rows on-rows k l w.1 a b m);
        second = λ k l e d a b m.
            let w = neither-of (get_or lanes k false) (get_or rows k false) e in
            neither-is _ _ (depends-second _ L n lanes on-lanes k l w.0 a b m) (depends-second _ R n rows on-rows k l w.1 a b m);
        kept = λ k v l h w e. absurd (true≢false (sym w ∙ e));
      }

  pub worked-none : (v : ℕ) → v < 256 → bit_at area 0 v ≡ false
  unfolding neither
  worked-none v h = W.each 0 v h ∙ level-low start S 0 v (omega arith) ∙ T.kept 0 v (omega arith) h ∙ clear v h

  pub worked-told : (k i : ℕ) → k < n → i < 256 → get_or lanes k false ≡ false → get_or rows k false ≡ false
      → bit_at area (129 + k) i ≡ answer c nodes (holders L R O i 0 0) k
  unfolding neither
  worked-told k i l h a b =
      W.each (129 + k) i h ∙ level-right start S k i l h (neither-is (get_or lanes k false) (get_or rows k false) a b)

  pub worked-tables : (k i v : ℕ) → k < n → v < 256 → 5 ≤ op_of (get_or nodes k 0)
      → i < rows_for c L R O (get_or lanes k false) (get_or rows k false) (get_or outer k false)
      → bit_at area (table_at room k + i) v
      ≡ leaf c (lane_for L R O (get_or lanes k false) (get_or rows k false)) (row_for L R O (get_or lanes k false) (get_or rows k false)) (get_or nodes k 0) i v
  unfolding neither
  worked-tables k i v l h o e =
      W.each (table_at room k + i) v h ∙ level-high start S (table_at room k + i) v (omega (arith, table_is room k))
      ∙ T.each k i v l h o e
