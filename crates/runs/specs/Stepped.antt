-- A step, computed: for each kind the tests of specs/Step in a row, and the state after it.
-- Assumes nothing.
use Rattle.std.specs.Prelude.{Bool, true, false, List, [], ◌∷◌, ◌++◌, ℕ, zero, suc, ltb, eqb, length, set}
use Rattle.std.proofs.Math.Option.{Option, none, some}
use Rattle.runs.specs.Model.{Model}
use Rattle.runs.specs.State.{Session, closed, opened, State, session_at, item_at}
use Rattle.runs.specs.Step.{Step}

-- a state, if every test holds
unfoldable pub when : List Bool → State → Option State
when [] s = some s
when (true ∷ bs) s = when bs s
when (false ∷ bs) s = none

-- what f gives of an open session's user and value
unfoldable pub when_open : Session → (ℕ → ℕ → Option State) → Option State
when_open closed f = none
when_open (opened u v) f = f u v

module _ (m : Model) (s : State) (p : Step) where
  abbrev pub to_open : Option State
  to_open =
      when (ltb p.actor m.users ∷ eqb p.target (length s.sessions) ∷ m.session_value p.value ∷ m.may_open p.actor p.value ∷ [])
      record { sessions = s.sessions ++ opened p.actor p.value ∷ []; items = s.items }

  abbrev pub to_close : Option State
  to_close = when_open (session_at s p.target) λ u v. when (eqb p.actor u ∷ eqb p.value 0 ∷ []) record { sessions = set s.sessions p.target closed; items = s.items }

  abbrev pub to_change : Option State
  to_change =
      when_open (session_at s p.target) λ u v.
      when (eqb p.actor u ∷ m.session_value p.value ∷ m.may_change u v p.value ∷ [])
      record { sessions = set s.sessions p.target (opened u p.value); items = s.items }

  abbrev pub to_make : Option State
  to_make =
      when_open (session_at s p.actor) λ u v.
      when (eqb p.target (length s.items) ∷ m.item_value p.value ∷ m.may_make v p.value ∷ [])
      record { sessions = s.sessions; items = s.items ++ p.value ∷ [] }

  abbrev pub to_modify : Option State
  to_modify =
      when_open (session_at s p.actor) λ u v.
      when (ltb p.target (length s.items) ∷ m.item_value p.value ∷ m.may_modify v (item_at s p.target) p.value ∷ [])
      record { sessions = s.sessions; items = set s.items p.target p.value }

  abbrev pub to_access : Option State
  to_access =
      when_open (session_at s p.actor) λ u v.
      when (ltb p.target (length s.items) ∷ ltb p.value m.permissions ∷ m.may_access p.value v (item_at s p.target) ∷ []) s

  -- by the kind
  unfoldable pub by_kind : ℕ → Option State
  by_kind zero = none
  by_kind (suc zero) = to_open
  by_kind (suc (suc zero)) = to_close
  by_kind (suc (suc (suc zero))) = to_change
  by_kind (suc (suc (suc (suc zero)))) = to_make
  by_kind (suc (suc (suc (suc (suc zero))))) = to_modify
  by_kind (suc (suc (suc (suc (suc (suc zero)))))) = to_access
  by_kind (suc (suc (suc (suc (suc (suc (suc k))))))) = none

  -- the state after the step, if it is carried out
  unfoldable pub stepped : Option State
  stepped = by_kind p.kind
