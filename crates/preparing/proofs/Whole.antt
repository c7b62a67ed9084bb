-- A formula that is prepared, from its parts. In order: row 0; the steps find their rows; all of it.
use mathlib.Core.Path.{◌≡◌, ◌∙◌}
use mathlib.Core.Bool.{false}
use mathlib.Core.List.{List}
use Prim.Native.Nat.{ℕ, ◌+◌, ◌*◌, ◌≤◌, ◌<◌}
use native.Mathlib.Omega.{arith}
use lib.ListN.{length, get_or}
use Rattle.policy.specs.Rules.{lists_of}
use Rattle.lanes.specs.Lanes.{lane_of, Lanes}
use Rattle.bitsets.specs.Rows.{bit_at, Rows, put}
use Rattle.bitsets.specs.Steps.{ran, Fits}
use Rattle.bitsets.proofs.Rows.{put_same}
use Rattle.dependence.specs.Depends.{Depends}
use Rattle.prepared.specs.Prepared.{Prepared}
use Rattle.prepared.specs.StepList.{listed}
use Rattle.prepared.specs.declared.Plan.{Plan}
use Rattle.tables.specs.Tables.{Tables}
use Rattle.tables.specs.declared.Layout.{Layout}
use Rattle.tables.specs.declared.Marks.{Marks}
use Rattle.preparing.specs.Levels.{level_steps}
use Rattle.preparing.specs.declared.steps.Level.{Level}
use Rattle.preparing.specs.declared.steps.Level.TheVariants.{Outer, Across, Board, Row}
use Rattle.preparing.proofs.Boards.{steps-fit}
use Rattle.preparing.proofs.Outer.{worked-none, worked-told, worked-tables}

-- a row that is stored without a bit
pub stored-none : (x old new : List ℕ) → Lanes (λ v. false) x → Rows (put 0 (lane_of x) (bit_at old)) new → (v : ℕ) → v < 256 → bit_at new 0 v ≡ false
stored-none x old new X N v h = N.each 0 v h ∙ put_same 0 (lane_of x) (bit_at old) v ∙ X.each v h

pub room-few : (y : Layout) → (0 < y.room) × (y.room ≤ 256) × (y.rows ≤ y.room) × (y.outers ≤ y.room)
room-few y =
    let e = y.room_enough in
    (omega (arith, e, y.rows_in_range), e.2, e.0, e.1)

pub level-fit : (y : Layout) (nodes : List ℕ) (m : Marks) (n i N : ℕ) (l : Level) → n ≤ 64 → i < y.room → 4 * (193 + 64 * y.room) ≤ N
    → (steps : List ℕ) → steps ≡ level_steps l nodes m y.room n → (j : ℕ) → j < length steps → Fits N i (get_or steps j 0)
level-fit y nodes m n i N l few h wide = go l
  where
    w : y.room ≤ 256
    w = (room-few y).1

    go : (l : Level) (steps : List ℕ) → steps ≡ level_steps l nodes m y.room n → (j : ℕ) → j < length steps → Fits N i (get_or steps j 0)
    go Outer = steps-fit nodes n i 129 65 y.room N _ _ _ few h w (omega arith) (omega arith) wide
    go Across = steps-fit nodes n i 65 129 y.room N _ _ _ few h w (omega arith) (omega arith) wide
    go Board = steps-fit nodes n i 1 129 y.room N _ _ _ few h w (omega arith) (omega arith) wide
    go Row = steps-fit nodes n i 1 65 y.room N _ _ _ few h w (omega arith) (omega arith) wide

module _ (y : Layout) (nodes : List ℕ) (m : Marks) (p : Plan) (apart : (y.lane ≡ y.row → ⊥) × (y.lane ≡ y.outer → ⊥) × (y.row ≡ y.outer → ⊥)) (many : length nodes ≡ p.nodes) (rows : p.rows ≡ y.rows) (outers : p.outers ≡ y.outers)
    (on-lane : Depends (λ k. get_or nodes k 0) y.lane p.nodes m.lane.now) (on-row : Depends (λ k. get_or nodes k 0) y.row p.nodes m.row.now)
    (on-outer : Depends (λ k. get_or nodes k 0) y.outer p.nodes m.outer.now)
    (first laid area : List ℕ) (clear : (v : ℕ) → v < 256 → bit_at first 0 v ≡ false)
    (T : Tables (lists_of y.classes) y.lane y.row y.outer m.lane.now m.row.now m.outer.now (λ k. get_or nodes k 0) y.room p.nodes first laid)
    (steps : List ℕ) (O : steps ≡ level_steps Outer nodes m y.room p.nodes) (W : Rows (ran steps 0 0 (length steps) (bit_at laid)) area)
    (A : listed p.across ≡ level_steps Across nodes m y.room p.nodes) (B : listed p.board ≡ level_steps Board nodes m y.room p.nodes)
    (R : listed p.row ≡ level_steps Row nodes m y.room p.nodes) (wide : 4 * (193 + 64 * y.room) ≤ length area) where
  pub prepared-of : Prepared (lists_of y.classes) nodes y.lane y.row y.outer p area
  prepared-of =
      let c = lists_of y.classes in
      let few = p.nodes_in_range in
      let room = room-few y in
      record {
        apart = apart;
        many = many;
        rows_are = rows ∙ y.rows_told;
        outers-are = outers ∙ y.outers_told;
        runs =
            record {
              last = omega (arith, few, wide);
              across = λ i j l. level-fit y nodes m p.nodes i (length area) Across few (omega (arith, l, outers, room)) wide (listed p.across) A j;
              board = λ i j l. level-fit y nodes m p.nodes i (length area) Board few (omega (arith, l, outers, room)) wide (listed p.board) B j;
              row = λ i j l. level-fit y nodes m p.nodes i (length area) Row few (omega (arith, l, rows, room)) wide (listed p.row) R j;
            };
        lanes = m.lane.now;
        rows = m.row.now;
        outer = m.outer.now;
        room = y.room;
        on-lanes = on-lane;
        on-rows = on-row;
        on-outer = on-outer;
        room-few = room.1;
        none = worked-none c nodes y.lane y.row y.outer p.nodes y.room m.lane.now m.row.now m.outer.now apart.1 apart.2 on-lane on-row few room.1 first laid area clear T steps O W;
        tables = worked-tables c nodes y.lane y.row y.outer p.nodes y.room m.lane.now m.row.now m.outer.now apart.1 apart.2 on-lane on-row few room.1 first laid area clear T steps O W;
        told = worked-told c nodes y.lane y.row y.outer p.nodes y.room m.lane.now m.row.now m.outer.now apart.1 apart.2 on-lane on-row few room.1 first laid area clear T steps O W;
        across = A;
        board = B;
        row = R;
      }
