-- A formula that is prepared: it is asked for one packed value of an outer holder and one of a row holder at a time, and answers for all packed values of a
-- lane holder at once. The rows of the area are three boards, on which node k has a row, and tables of comparisons:
--   0                       no bit
--   1 to 64, the board      bit v: the lane holder has value v
--   65 to 128, across       bit v: the row holder has value v; of nodes that don't depend on the lane holder
--   129 to 192, outer       bit v: the outer holder has value v; of nodes that depend on neither
--   from 193 on             for each comparison one row, or one row for each value of another holder that it depends on
-- Assumes nothing.
use Rattle.std.specs.Prelude.{◌≡◌, Bool, false, not, ◌||◌, cond, List, ℕ, ◌+◌, ◌*◌, ◌%◌, ◌^◌, ◌≤◌, ◌<◌, min, ltb, eqb, length, get_or}
use Rattle.policy.specs.Policy.{Lists, width}
use Rattle.policy.specs.Nodes.{op_of, of_holder}
use Rattle.formulas.specs.declared.Holders.{Holders}
use Rattle.bitsets.specs.Rows.{bit_at}
use Rattle.bitsets.specs.Steps.{ran, Fits}
use Rattle.dependence.specs.Answers.{holders_of, answer}
use Rattle.dependence.specs.Depends.{Depends}
use Rattle.sides.specs.Leaf.{leaf}
use Rattle.prepared.specs.Level.{node_step, steps_of}
use Rattle.prepared.specs.StepList.{listed}
use Rattle.prepared.specs.declared.Plan.{Plan}

-- where the table of node k begins: each table has place for `room` rows
unfoldable pub table_at : ℕ → ℕ → ℕ
table_at room k = 193 + k * room

-- how many packed values of holder h are told apart: those of the bits of its class, at most 256; one where there is no such holder
unfoldable pub room_of : Lists → ℕ → ℕ
room_of c h = cond (ltb h 5) (min (2 ^ width (of_holder c h)) 256) 1

-- the rows for the outer value o: after the steps across, then those of the board
unfoldable pub begun : Plan → ℕ → (ℕ → ℕ → Bool) → ℕ → ℕ → Bool
begun p o A = ran (listed p.board) 0 (o % p.outers) (length (listed p.board)) (ran (listed p.across) 0 (o % p.outers) (length (listed p.across)) A)

-- the rows for the row value r: after the steps of the nodes that depend on it
unfoldable pub rowed : Plan → ℕ → (ℕ → ℕ → Bool) → ℕ → ℕ → Bool
rowed p r A = ran (listed p.row) 0 (r % p.rows) (length (listed p.row)) A

-- the steps find their rows in an area of n words
pub record Runs (p : Plan) (n : ℕ) : Type 0 where
  pub last : 4 * p.nodes + 4 ≤ n
  pub across : (i j : ℕ) → i < p.outers → j < length (listed p.across) → Fits n i (get_or (listed p.across) j 0)
  pub board : (i j : ℕ) → i < p.outers → j < length (listed p.board) → Fits n i (get_or (listed p.board) j 0)
  pub row : (i j : ℕ) → i < p.rows → j < length (listed p.row) → Fits n i (get_or (listed p.row) j 0)

-- L, R and O are the numbers of the lane, the row and the outer holder
module _ (L R O : ℕ) where
  -- the holders where their packed values are v, r and o, and any other's is 0
  unfoldable pub holders : ℕ → ℕ → ℕ → Holders
  holders o r v = holders_of (λ h. cond (eqb h L) v (cond (eqb h R) r (cond (eqb h O) o 0)))

  -- of a comparison that depends on the lane holder or on the row holder: whose values its bits stand for, and whose values its rows
  unfoldable pub lane_for : Bool → Bool → ℕ
  lane_for lanes rows = cond lanes L (cond rows R O)

  unfoldable pub row_for : Bool → Bool → ℕ
  row_for lanes rows = cond lanes (cond rows R O) O

-- how many rows such a comparison has
unfoldable pub rows_for : Lists → ℕ → ℕ → ℕ → Bool → Bool → Bool → ℕ
rows_for c L R O lanes rows outer = cond (cond lanes (rows || outer) (cond rows outer false)) (room_of c (row_for L R O lanes rows)) 1

module _ (c : Lists) (nodes : List ℕ) (L R O : ℕ) where
  -- which nodes depend on each of the three, for how many rows each table has place, what the area has, and the lists of steps
  pub record Prepared (p : Plan) (area : List ℕ) : Type 0 where
    pub apart : (L ≡ R → ⊥) × (L ≡ O → ⊥) × (R ≡ O → ⊥)
    pub many : length nodes ≡ p.nodes
    pub rows_are : p.rows ≡ room_of c R
    pub outers-are : p.outers ≡ room_of c O
    pub runs : Runs p (length area)
    pub lanes : List Bool
    pub rows : List Bool
    pub outer : List Bool
    pub room : ℕ
    pub on-lanes : Depends (λ k. get_or nodes k 0) L p.nodes lanes
    pub on-rows : Depends (λ k. get_or nodes k 0) R p.nodes rows
    pub on-outer : Depends (λ k. get_or nodes k 0) O p.nodes outer
    pub room-few : room ≤ 256
    pub none : (v : ℕ) → v < 256 → bit_at area 0 v ≡ false
    pub tables : (k i v : ℕ) → k < p.nodes → v < 256 → 5 ≤ op_of (get_or nodes k 0)
        → i < rows_for c L R O (get_or lanes k false) (get_or rows k false) (get_or outer k false)
        → bit_at area (table_at room k + i) v ≡ leaf c (lane_for L R O (get_or lanes k false) (get_or rows k false)) (row_for L R O (get_or lanes k false) (get_or rows k false)) (get_or nodes k 0) i v
    pub told : (k i : ℕ) → k < p.nodes → i < 256 → get_or lanes k false ≡ false → get_or rows k false ≡ false → bit_at area (129 + k) i ≡ answer c nodes (holders L R O i 0 0) k
    pub across : listed p.across ≡ steps_of (λ k. not (get_or lanes k false)) (λ k. node_step 65 129 (get_or rows k false) (get_or outer k false) (get_or nodes k 0) k (table_at room k)) p.nodes
    pub board : listed p.board ≡ steps_of (λ k. not (get_or rows k false)) (λ k. node_step 1 129 (get_or lanes k false) (get_or outer k false) (get_or nodes k 0) k (table_at room k)) p.nodes
    pub row : listed p.row ≡ steps_of (λ k. get_or rows k false) (λ k. node_step 1 65 (get_or lanes k false) (get_or rows k false) (get_or nodes k 0) k (table_at room k)) p.nodes

  -- across and the board are worked out for the outer value o
  pub record Begun (p : Plan) (o : ℕ) (lanes rows : List Bool) (area : List ℕ) : Type 0 where
    pub across : (k r : ℕ) → k < p.nodes → r < 256 → get_or lanes k false ≡ false → bit_at area (65 + k) r ≡ answer c nodes (holders L R O o r 0) k
    pub board : (k v : ℕ) → k < p.nodes → v < 256 → get_or rows k false ≡ false → bit_at area (1 + k) v ≡ answer c nodes (holders L R O o 0 v) k

  -- prepared, and worked out for the outer value o
  pub record Ready (p : Plan) (o : ℕ) (area : List ℕ) : Type 0 where
    pub prepared : Prepared p area
    pub begun : Begun p (o % p.outers) prepared.lanes prepared.rows area
