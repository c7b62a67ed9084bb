-- What is asked of the rules' formulas. Each is prepared for the holder whose values are asked about at once (the lane holder), the one whose values are
-- gone through one by one (the row holder), and the one that stays for a while (the outer holder): 0 user, 1 session as it is, 2 session as proposed,
-- 3 item as it is, 4 item as proposed; 8 and 9 stand for none.
-- Assumes nothing.
use Rattle.std.specs.Prelude.{Bool, List, ℕ, ◌+◌, ◌<◌, get_or}
use Rattle.policy.specs.Rules.{lists_of, nodes_of, policy_of}
use Rattle.prepared.specs.Prepared.{Prepared, Ready}
use Rattle.prepared.specs.declared.Plan.{Plan}
use Rattle.runs.specs.Edge.{accesses}
use Rattle.allowed.specs.Allowed.{user_value}
use Rattle.allowed_rows.specs.Basis.{rules_by, model_by}
use Rattle.allowed_rows.specs.declared.Asked.{Asked}
use Rattle.allowed_rows.specs.declared.Asked.TheVariants.{Open, Change, Make, Modify, Access}
use Rattle.allowed_rows.specs.declared.Basis.{Basis}

-- its formula
abbrev pub formula_of : Asked → ℕ
formula_of Open = 0
formula_of Change = 1
formula_of Make = 2
formula_of Modify = 3
formula_of (Access k) = 4 + k

-- openings and changes of sessions: the session as proposed; changes of items: the item as proposed; else the session
abbrev pub lane_holder : Asked → ℕ
lane_holder Open = 2
lane_holder Change = 2
lane_holder Make = 1
lane_holder Modify = 4
lane_holder (Access k) = 1

abbrev pub row_holder : Asked → ℕ
row_holder Open = 8
row_holder Change = 1
row_holder Make = 4
row_holder Modify = 1
row_holder (Access k) = 3

abbrev pub outer_holder : Asked → ℕ
outer_holder Open = 0
outer_holder Change = 0
outer_holder Make = 9
outer_holder Modify = 3
outer_holder (Access k) = 9

module _ (b : Basis) where
  -- formula f, by its nodes
  abbrev pub nodes_at : ℕ → List ℕ
  nodes_at f = nodes_of b.nodes.now f (get_or b.lengths f 0)

  -- the value of the outer holder: of user o, of an item with value o, or of none
  abbrev pub outer_value : Asked → ℕ → ℕ
  outer_value Open o = user_value (policy_of (rules_by b)) o
  outer_value Change o = user_value (policy_of (rules_by b)) o
  outer_value Make o = 0
  outer_value Modify o = o
  outer_value (Access k) o = 0

  -- what is allowed of the lane value v
  abbrev pub allows : Asked → ℕ → ℕ → ℕ → Bool
  allows Open o r v = (model_by b).may_open o v
  allows Change o r v = (model_by b).may_change o r v
  allows Make o r v = (model_by b).may_make v r
  allows Modify o r v = (model_by b).may_modify r o v
  allows (Access k) o r v = accesses (model_by b) k v r

  -- formula f is prepared for lane holder L, row holder R and outer holder O
  abbrev pub FormulaPrepared : ℕ → ℕ → ℕ → ℕ → Plan → List ℕ → Type 0
  FormulaPrepared f L R O = Prepared (lists_of b.classes) (nodes_at f) L R O

  -- the formula of what is asked is prepared for its holders
  abbrev pub PreparedFor : Asked → Plan → List ℕ → Type 0
  PreparedFor a = FormulaPrepared (formula_of a) (lane_holder a) (row_holder a) (outer_holder a)

  -- and worked out for a value of the outer holder, which is a byte
  abbrev pub ReadyFor : Asked → Plan → ℕ → List ℕ → Type 0
  ReadyFor a p o area =
      (outer_value a o < 256) × Ready (lists_of b.classes) (nodes_at (formula_of a)) (lane_holder a) (row_holder a) (outer_holder a) p (outer_value a o) area

  -- user by user, which values a session may be opened with
  abbrev pub OpenPrepared : Plan → List ℕ → Type 0
  OpenPrepared = PreparedFor Open

  -- user by user, which values a session with each value may be changed to
  abbrev pub ChangePrepared : Plan → List ℕ → Type 0
  ChangePrepared = PreparedFor Change

  abbrev pub ChangeReady : Plan → ℕ → List ℕ → Type 0
  ChangeReady = ReadyFor Change

  -- which sessions may make an item with each value
  abbrev pub MakePrepared : Plan → List ℕ → Type 0
  MakePrepared = PreparedFor Make

  abbrev pub MakeReady : Plan → List ℕ → Type 0
  MakeReady p = ReadyFor Make p 0

  -- item value by item value, which values a session with each value may change the item to
  abbrev pub ModifyPrepared : Plan → List ℕ → Type 0
  ModifyPrepared = PreparedFor Modify

  abbrev pub ModifyReady : Plan → ℕ → List ℕ → Type 0
  ModifyReady = ReadyFor Modify

  -- which sessions have permission k on an item with each value
  abbrev pub AccessPrepared : ℕ → Plan → List ℕ → Type 0
  AccessPrepared k = PreparedFor (Access k)

  abbrev pub AccessReady : ℕ → Plan → List ℕ → Type 0
  AccessReady k p = ReadyFor (Access k) p 0
