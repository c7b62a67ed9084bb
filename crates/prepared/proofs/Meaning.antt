-- What the rows of a prepared formula say. In order: the steps across, of the board and of a row, by the laws of a level; a formula that is prepared
-- stays so; it is ready after `begin` and after `row_at`, and then answers.
use mathlib.Core.Path.{◌≡◌, refl, sym, ap, ap₂, ◌∙◌, subst}
use mathlib.Core.Bool.{Bool, true, false, not, true≢false}
use mathlib.Core.List.{List}
use mathlib.Core.Logic.{inl}
use Prim.Native.Nat.{ℕ, zero, suc, ◌+◌, ◌%◌, ◌≤◌, ◌<◌}
use native.Mathlib.Nat.{mod-lt}
use native.Mathlib.Omega.{arith}
use lib.ListN.{length, get_or}
use Rattle.policy.specs.Policy.{Lists}
use Rattle.formulas.specs.Meaning.{holds}
use Rattle.bitsets.specs.Rows.{bit_at, Rows}
use Rattle.bitsets.specs.Steps.{ran}
use Rattle.dependence.proofs.Answers.{answer-last, holds-none}
use Rattle.dependence.proofs.Depending.{depends-first, depends-second}
use Rattle.prepared.specs.Prepared.{table_at, begun, rowed, Runs, holders, Prepared, Begun, Ready}
use Rattle.prepared.specs.StepList.{listed}
use Rattle.prepared.specs.declared.Plan.{Plan}
use Rattle.prepared.proofs.Start.{Places, Start, places_of}
use Rattle.prepared.proofs.Level.{level-right, level-low, level-high, level-skipped}
use Rattle.prepared.proofs.Parts.{reduced}
use Rattle.prepared.proofs.Tables.{on_lanes, on_rows, on_outer, lane-free, row-free, across-taken, across-copied, board-taken, board-copied, row-taken, table-few, table-past}

unset : (b : Bool) → not b ≡ true → b ≡ false
unset true e = absurd (true≢false (sym e))
unset false e = refl

module _ {c : Lists} {nodes : List ℕ} {L R O : ℕ} {p : Plan} {area : List ℕ} (P : Prepared c nodes L R O p area) where
  boards : (i own from : ℕ) → i < 256 → 0 < own → own + 64 ≤ from → from + 64 ≤ 193 → Places p.nodes i own from (table_at P.room)
  boards i own from h low a b =
      places_of p.nodes i own from (table_at P.room) p.nodes_in_range h low (omega arith) b (inl a) (λ k l. (table-past P k, table-few P k l))

  -- the levels of the outer value i, on rows A that say what the area says below and past the two boards
  module _ (i : ℕ) (q : i < p.outers) (A : ℕ → ℕ → Bool) (low : (v : ℕ) → v < 256 → A 0 v ≡ bit_at area 0 v)
      (high : (a v : ℕ) → v < 256 → 129 ≤ a → A a v ≡ bit_at area a v) where
    across-start : Start c nodes p.nodes (λ r. holders L R O i r 0) i 65 129 (λ k. not (on_lanes P k)) (on_rows P) (on_outer P)
        (λ k. not (on_lanes P k)) (table_at P.room) A
    across-start =
        record {
          places = boards i _ _ (omega (arith, p.outers_in_range.1)) (omega arith) (omega arith) (omega arith);
          none = λ v h. low v h ∙ P.none v h;
          told = λ k v l h e d.
              let f = unset (on_lanes P k) e in
              high (129 + k) i (omega (arith, p.outers_in_range.1)) (omega arith)
              ∙ P.told k i l (omega (arith, p.outers_in_range.1)) f d ∙ row-free P k l i 0 v 0 d;
          taken = λ k v l h e d a x.
              high (table_at P.room k + i) v h (omega (arith, table-past P k)) ∙ across-taken P k l a v h i (unset (on_lanes P k) e) d x q;
          copied = λ k v l h e d a x.
              high (table_at P.room k) v h (omega (arith, table-past P k)) ∙ across-copied P k l a v h i (unset (on_lanes P k) e) d x;
          first = λ k l e d a b m.
              ap not (depends-first (λ k. get_or nodes k 0) L p.nodes P.lanes P.on-lanes k l (unset (on_lanes P k) e) a b m);
          second = λ k l e d a b m.
              ap not (depends-second (λ k. get_or nodes k 0) L p.nodes P.lanes P.on-lanes k l (unset (on_lanes P k) e) a b m);
          kept = λ k v l h w e. absurd (true≢false (sym w ∙ e));
        }

    board-start : Start c nodes p.nodes (λ v. holders L R O i 0 v) i 1 129 (λ k. not (on_rows P k)) (on_lanes P) (on_outer P)
        (λ k. not (on_rows P k)) (table_at P.room) A
    board-start =
        record {
          places = boards i _ _ (omega (arith, p.outers_in_range.1)) (omega arith) (omega arith) (omega arith);
          none = λ v h. low v h ∙ P.none v h;
          told = λ k v l h e d.
              let f = unset (on_rows P k) e in
              high (129 + k) i (omega (arith, p.outers_in_range.1)) (omega arith)
              ∙ P.told k i l (omega (arith, p.outers_in_range.1)) d f ∙ lane-free P k l i 0 0 v d;
          taken = λ k v l h e d a x.
              high (table_at P.room k + i) v h (omega (arith, table-past P k)) ∙ board-taken P k l a v h i d (unset (on_rows P k) e) x q;
          copied = λ k v l h e d a x.
              high (table_at P.room k) v h (omega (arith, table-past P k)) ∙ board-copied P k l a v h i d (unset (on_rows P k) e) x;
          first = λ k l e d a b m.
              ap not (depends-first (λ k. get_or nodes k 0) R p.nodes P.rows P.on-rows k l (unset (on_rows P k) e) a b m);
          second = λ k l e d a b m.
              ap not (depends-second (λ k. get_or nodes k 0) R p.nodes P.rows P.on-rows k l (unset (on_rows P k) e) a b m);
          kept = λ k v l h w e. absurd (true≢false (sym w ∙ e));
        }

  -- the level of the row value i, where across and the board are worked out for the outer value o
  row-start : (o i : ℕ) → i < p.rows → Begun c nodes L R O p o P.lanes P.rows area
      → Start c nodes p.nodes (λ v. holders L R O o i v) i 1 65 (λ k. on_rows P k) (on_lanes P) (on_rows P)
      (λ k. true) (table_at P.room) (bit_at area)
  row-start o i q B =
      record {
        places = boards i _ _ (omega (arith, p.rows_in_range.1)) (omega arith) (omega arith) (omega arith);
        none = P.none;
        told = λ k v l h e d. B.across k i l (omega (arith, p.rows_in_range.1)) d ∙ lane-free P k l o i 0 v d;
        taken = λ k v l h e d a x. row-taken P k l a v h i o d x q;
        copied = λ k v l h e d a x. absurd (true≢false (sym e ∙ x));
        first = λ k l e d a b m. refl;
        second = λ k l e d a b m. refl;
        kept = λ k v l h w e. B.board k v l h e ∙ row-free P k l o 0 i v e;
      }

  -- a formula stays prepared where the row below the boards and those from the outer board on stay
  module _ {area' : List ℕ} (long : length area' ≡ length area) (low : (v : ℕ) → v < 256 → bit_at area' 0 v ≡ bit_at area 0 v)
      (high : (a v : ℕ) → v < 256 → 129 ≤ a → bit_at area' a v ≡ bit_at area a v) where
    prepared-kept : Prepared c nodes L R O p area'
    prepared-kept =
        record {
          apart = P.apart;
          many = P.many;
          rows_are = P.rows_are;
          outers-are = P.outers-are;
          runs = subst (Runs p) (sym long) P.runs;
          lanes = P.lanes;
          rows = P.rows;
          outer = P.outer;
          room = P.room;
          on-lanes = P.on-lanes;
          on-rows = P.on-rows;
          on-outer = P.on-outer;
          room-few = P.room-few;
          none = λ v h. low v h ∙ P.none v h;
          tables = λ k i v l h a q. high (table_at P.room k + i) v h (omega (arith, table-past P k)) ∙ P.tables k i v l h a q;
          told = λ k i l h d e. high (129 + k) i h (omega arith) ∙ P.told k i l h d e;
          across = P.across;
          board = P.board;
          row = P.row;
        }

    ready_of : (o : ℕ) → Begun c nodes L R O p (o % p.outers) P.lanes P.rows area' → Ready c nodes L R O p o area'
    unfolding prepared-kept
    ready_of o B = record { prepared = prepared-kept; begun = B }

module _ (c : Lists) (nodes : List ℕ) (L R O : ℕ) where
  -- after `begin` a prepared formula is ready for the outer value
  pub begin-ready : {p : Plan} {area : List ℕ} → Prepared c nodes L R O p area → (o : ℕ) (area' : List ℕ) → length area' ≡ length area
      → Rows (begun p o (bit_at area)) area' → Ready c nodes L R O p o area'
  unfolding begun
  begin-ready {p} {area} P o area' long W =
      let i = o % p.outers in
      let few = p.nodes_in_range in
      let q = mod-lt o p.outers_in_range.0 in
      let A = across-start P i q (bit_at area) (λ v h. refl) (λ a v h g. refl) in
      let T = P.across in
      let B = board-start P i q (ran (listed p.across) 0 i (length (listed p.across)) (bit_at area)) (λ v h. level-low A T 0 v (omega arith))
      (λ a v h g. level-high A T a v (omega (arith, few))) in
      let U = P.board in
      ready_of P long
      (λ v h. W.each 0 v h ∙ level-low B U 0 v (omega arith) ∙ level-low A T 0 v (omega arith))
      (λ a v h g. W.each a v h ∙ level-high B U a v (omega (arith, few)) ∙ level-high A T a v (omega (arith, few)))
      o
      (record {
        across = λ k r l h e. W.each (65 + k) r h ∙ level-high B U (65 + k) r (omega (arith, few)) ∙ level-right A T k r l h (ap not e);
        board = λ k v l h e. W.each (1 + k) v h ∙ level-right B U k v l h (ap not e);
      })

  module _ {p : Plan} {o : ℕ} {area : List ℕ} (G : Ready c nodes L R O p o area) where
    -- it is after `row_at`
    pub row-ready : (r : ℕ) (area' : List ℕ) → length area' ≡ length area → Rows (rowed p r (bit_at area)) area' → Ready c nodes L R O p o area'
    unfolding rowed
    row-ready r area' long W =
        let P = G.prepared in
        let few = p.nodes_in_range in
        let S = row-start P (o % p.outers) (r % p.rows) (mod-lt r p.rows_in_range.0) G.begun in
        let T = P.row in
        ready_of P long
        (λ v h. W.each 0 v h ∙ level-low S T 0 v (omega arith))
        (λ a v h g. W.each a v h ∙ level-high S T a v (omega (arith, few)))
        o
        (record {
          across = λ k r l h e. W.each (65 + k) r h ∙ level-high S T (65 + k) r (omega (arith, few)) ∙ G.begun.across k r l h e;
          board = λ k v l h e. W.each (1 + k) v h ∙ level-skipped S T k v l e ∙ G.begun.board k v l h e;
        })

    -- and its last node's row says what the formula says
    last-holds : (i v m : ℕ) → i < p.rows → v < 256 → p.nodes ≡ m
        → ran (listed p.row) 0 i (length (listed p.row)) (bit_at area) m v ≡ holds c (holders L R O (o % p.outers) i v) nodes
    last-holds i v zero q h e =
        let P = G.prepared in
        level-low (row-start P (o % p.outers) i q G.begun) P.row 0 v (omega arith) ∙ P.none v h ∙ sym (holds-none c nodes _ (P.many ∙ e))
    last-holds i v (suc m) q h e =
        let P = G.prepared in
        ap (λ (k : ℕ). ran (listed p.row) 0 i (length (listed p.row)) (bit_at area) k v) (omega arith)
        ∙ level-right (row-start P (o % p.outers) i q G.begun) P.row m v (omega (arith, e)) h refl
        ∙ sym (answer-last c nodes _ m (P.many ∙ e))

    pub row-holds : (r : ℕ) → o < 256 → r < 256 → (v : ℕ) → v < 256 → rowed p r (bit_at area) p.nodes v ≡ holds c (holders L R O o r v) nodes
    unfolding rowed
    row-holds r a b v h =
        let P = G.prepared in
        last-holds (r % p.rows) v p.nodes (mod-lt r p.rows_in_range.0) h refl
        ∙ ap₂ (λ (x y : ℕ). holds c (holders L R O (o % x) (r % y) v) nodes) P.outers-are P.rows_are
        ∙ reduced c nodes L R O o r v a b
