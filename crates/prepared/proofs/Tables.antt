-- What the tables of a prepared formula say. In order: holders that differ in one value; nodes that do not depend on a holder; a comparison by its
-- table; what the levels take from it; where tables stand.
use mathlib.Core.Path.{◌≡◌, refl, sym, ap, ap₂, ◌∙◌, subst}
use mathlib.Core.Bool.{Bool, true, false, true≢false, ◌||◌}
use mathlib.Core.List.{List}
use Prim.Native.Nat.{ℕ, ◌+◌, ◌*◌, ◌≤◌, ◌<◌}
use native.Mathlib.Decide.{ℕ_discrete}
use native.Mathlib.Nat.{mul-le-mul}
use native.Mathlib.Omega.{arith}
use borrow.Author.Tests.{ne_eqb}
use lib.Dec.{eqb}
use lib.ListN.{get_or}
use Rattle.policy.specs.Policy.{Lists}
use Rattle.policy.specs.Nodes.{op_of, first_of, second_of, holder_of}
use Rattle.bitsets.specs.Rows.{bit_at}
use Rattle.dependence.specs.Answers.{answer, leaf_of}
use Rattle.dependence.proofs.Depending.{depends-operand, depends-leaf, depends-same}
use Rattle.sides.specs.Leaf.{two, leaf}
use Rattle.prepared.specs.Prepared.{table_at, holders, lane_for, row_for, rows_for, Prepared}
use Rattle.prepared.specs.declared.Plan.{Plan}
use Rattle.prepared.proofs.Parts.{value_for}

-- values that differ at one holder
module _ (L R O : ℕ) (h : ℕ) where
  but-lane : (o r v w : ℕ) → (h ≡ L → ⊥) → value_for L R O o r v h ≡ value_for L R O o r w h
  unfolding value_for
  but-lane o r v w a = simp (ne_eqb h L a)

  but-row : (o r s v : ℕ) → (h ≡ R → ⊥) → value_for L R O o r v h ≡ value_for L R O o s v h
  unfolding value_for
  but-row o r s v a = simp (ne_eqb h R a)

  -- without that holder the other two are left
  two-lane : (o r v : ℕ) → (h ≡ L → ⊥) → value_for L R O o r v h ≡ two R O r o h
  unfolding value_for two
  two-lane o r v a = simp (ne_eqb h L a)

  two-row : (o r v : ℕ) → (h ≡ R → ⊥) → value_for L R O o r v h ≡ two L O v o h
  unfolding value_for two
  two-row o r v a = simp (ne_eqb h R a)

  two-outer : (o r v : ℕ) → (h ≡ O → ⊥) → value_for L R O o r v h ≡ two L R v r h
  unfolding value_for two
  two-outer o r v a = simp (ne_eqb h O a)

-- of two numbers one is L and one is R, so none is O
module _ (g h : ℕ) where
  none_of : (x : ℕ) → (g ≡ x → ⊥) → (h ≡ x → ⊥) → eqb g x || eqb h x ≡ false
  none_of x m n = ap₂ ◌||◌ (ne_eqb g x m) (ne_eqb h x n)

  other-of : (x : ℕ) → (g ≡ x → ⊥) → eqb g x || eqb h x ≡ true → h ≡ x
  other-of x m p = go (ℕ_discrete h x)
    where
      go : Dec (h ≡ x) → h ≡ x
      go (yes e) = e
      go (no n) = absurd (true≢false (sym p ∙ none_of x m n))

  neither : (L R O : ℕ) → (L ≡ R → ⊥) → (L ≡ O → ⊥) → (R ≡ O → ⊥) → eqb g L || eqb h L ≡ true → eqb g R || eqb h R ≡ true → eqb g O || eqb h O ≡ false
  neither L R O a b d p q = go (ℕ_discrete g L) (ℕ_discrete g R)
    where
      go : Dec (g ≡ L) → Dec (g ≡ R) → eqb g O || eqb h O ≡ false
      go (yes m) (yes n) = absurd (a (sym m ∙ n))
      go (yes m) (no n) = none_of O (λ e. b (sym m ∙ e)) (λ e. d (sym (other-of R n q) ∙ e))
      go (no m) (yes n) = none_of O (λ e. d (sym n ∙ e)) (λ e. b (sym (other-of L m p) ∙ e))
      go (no m) (no n) = absurd (a (sym (other-of L m p) ∙ other-of R n q))

module _ {c : Lists} {nodes : List ℕ} {L R O : ℕ} {p : Plan} {area : List ℕ} (P : Prepared c nodes L R O p area) where
  abbrev pub on_lanes : ℕ → Bool
  on_lanes k = get_or P.lanes k false

  abbrev pub on_rows : ℕ → Bool
  on_rows k = get_or P.rows k false

  abbrev pub on_outer : ℕ → Bool
  on_outer k = get_or P.outer k false

  -- a node that does not depend on a holder says the same, whatever its value
  module _ (k : ℕ) (l : k < p.nodes) where
    pub lane-free : (o r v w : ℕ) → on_lanes k ≡ false → answer c nodes (holders L R O o r v) k ≡ answer c nodes (holders L R O o r w) k
    unfolding holders value_for
    lane-free o r v w e =
        depends-same c nodes L p.nodes P.lanes (value_for L R O o r v) (value_for L R O o r w) P.on-lanes (λ h a. but-lane L R O h o r v w a) k e l

    pub row-free : (o r s v : ℕ) → on_rows k ≡ false → answer c nodes (holders L R O o r v) k ≡ answer c nodes (holders L R O o s v) k
    unfolding holders value_for
    row-free o r s v e =
        depends-same c nodes R p.nodes P.rows (value_for L R O o r v) (value_for L R O o s v) P.on-rows (λ h a. but-row L R O h o r s v a) k e l

    module _ (a : 5 ≤ op_of (get_or nodes k 0)) where
      -- a comparison reads two holders where it does not depend on the third
      leaf-lane : (o r v : ℕ) → on_lanes k ≡ false → leaf_of c nodes (holders L R O o r v) k ≡ leaf c R O (get_or nodes k 0) o r
      unfolding holders value_for leaf leaf_of
      leaf-lane o r v e =
          depends-leaf c nodes L p.nodes P.lanes (value_for L R O o r v) (two R O r o) P.on-lanes (λ h d. two-lane L R O h o r v d) k e l a

      leaf-row : (o r v : ℕ) → on_rows k ≡ false → leaf_of c nodes (holders L R O o r v) k ≡ leaf c L O (get_or nodes k 0) o v
      unfolding holders value_for leaf leaf_of
      leaf-row o r v e =
          depends-leaf c nodes R p.nodes P.rows (value_for L R O o r v) (two L O v o) P.on-rows (λ h d. two-row L R O h o r v d) k e l a

      leaf-outer : (o r v : ℕ) → on_outer k ≡ false → leaf_of c nodes (holders L R O o r v) k ≡ leaf c L R (get_or nodes k 0) r v
      unfolding holders value_for leaf leaf_of
      leaf-outer o r v e =
          depends-leaf c nodes O p.nodes P.outer (value_for L R O o r v) (two L R v r) P.on-outer (λ h d. two-outer L R O h o r v d) k e l a

      -- it does not read the outer holder's value where it does not depend on it
      leaf-free : (o u r v : ℕ) → on_outer k ≡ false → leaf_of c nodes (holders L R O o r v) k ≡ leaf_of c nodes (holders L R O u r v) k
      leaf-free o u r v e = leaf-outer o r v e ∙ sym (leaf-outer u r v e)

      -- where it depends on the first two, it does not on the third
      both-only : on_lanes k ≡ true → on_rows k ≡ true → on_outer k ≡ false
      both-only x y =
          let w = P.apart in
          depends-operand (λ k. get_or nodes k 0) O p.nodes P.outer P.on-outer k l a
          ∙ neither (holder_of (first_of (get_or nodes k 0))) (holder_of (second_of (get_or nodes k 0))) L R O w.0 w.1 w.2
          (sym (depends-operand (λ k. get_or nodes k 0) L p.nodes P.lanes P.on-lanes k l a) ∙ x)
          (sym (depends-operand (λ k. get_or nodes k 0) R p.nodes P.rows P.on-rows k l a) ∙ y)

      -- its table, by what it depends on
      table-at : (i v : ℕ) (x y z : Bool) → v < 256 → on_lanes k ≡ x → on_rows k ≡ y → on_outer k ≡ z
          → i < rows_for c L R O x y z
          → bit_at area (table_at P.room k + i) v ≡ leaf c (lane_for L R O x y) (row_for L R O x y) (get_or nodes k 0) i v
      table-at i v x y z h d e f q =
          let s : rows_for c L R O (on_lanes k) (on_rows k) (on_outer k) ≡ rows_for c L R O x y z = rw (d, e, f) refl in
          P.tables k i v l h a (subst (λ (m : ℕ). i < m) (sym s) q)
          ∙ ap₂ (λ (s t : Bool). leaf c (lane_for L R O s t) (row_for L R O s t) (get_or nodes k 0) i v) d e

      first-at : (v : ℕ) (x y z : Bool) → v < 256 → on_lanes k ≡ x → on_rows k ≡ y → on_outer k ≡ z → rows_for c L R O x y z ≡ 1
          → bit_at area (table_at P.room k) v ≡ leaf c (lane_for L R O x y) (row_for L R O x y) (get_or nodes k 0) 0 v
      first-at v x y z h d e f q = ap (λ (b : ℕ). bit_at area b v) (omega arith) ∙ table-at 0 v x y z h d e f (omega (arith, q))

      -- what the levels take from it
      module _ (v : ℕ) (h : v < 256) (i : ℕ) where
        pub across-taken : on_lanes k ≡ false → on_rows k ≡ true → on_outer k ≡ true → i < p.outers
            → bit_at area (table_at P.room k + i) v ≡ leaf_of c nodes (holders L R O i v 0) k
        unfolding rows_for lane_for row_for
        across-taken x y z q = table-at i v false true true h x y z (omega (arith, P.outers-are)) ∙ sym (leaf-lane i v 0 x)

        pub across-copied : on_lanes k ≡ false → on_rows k ≡ true → on_outer k ≡ false
            → bit_at area (table_at P.room k) v ≡ leaf_of c nodes (holders L R O i v 0) k
        unfolding rows_for lane_for row_for
        across-copied x y z = first-at v false true false h x y z refl ∙ sym (leaf-lane 0 v 0 x) ∙ leaf-free 0 i v 0 z

        pub board-taken : on_lanes k ≡ true → on_rows k ≡ false → on_outer k ≡ true → i < p.outers
            → bit_at area (table_at P.room k + i) v ≡ leaf_of c nodes (holders L R O i 0 v) k
        unfolding rows_for lane_for row_for
        board-taken x y z q = table-at i v true false true h x y z (omega (arith, P.outers-are)) ∙ sym (leaf-row i 0 v y)

        pub board-copied : on_lanes k ≡ true → on_rows k ≡ false → on_outer k ≡ false
            → bit_at area (table_at P.room k) v ≡ leaf_of c nodes (holders L R O i 0 v) k
        unfolding rows_for lane_for row_for
        board-copied x y z = first-at v true false false h x y z refl ∙ sym (leaf-row 0 0 v y) ∙ leaf-free 0 i 0 v z

        pub row-taken : (o : ℕ) → on_lanes k ≡ true → on_rows k ≡ true → i < p.rows
            → bit_at area (table_at P.room k + i) v ≡ leaf_of c nodes (holders L R O o i v) k
        unfolding rows_for lane_for row_for
        row-taken o x y q =
            table-at i v true true (on_outer k) h x y refl (omega (arith, P.rows_are)) ∙ sym (leaf-outer o i v (both-only x y))

  -- the table of a node begins past the boards
  pub table-few : (k : ℕ) → k < p.nodes → table_at P.room k < 65536
  unfolding table_at
  table-few k l =
      let q : k * P.room ≤ 63 * 256 = mul-le-mul {n₁ = k} {n₂ = 63} (omega (arith, p.nodes_in_range)) P.room-few in
      omega (arith, q)

  pub table-past : (k : ℕ) → 193 ≤ table_at P.room k
  unfolding table_at
  table-past k = omega arith
