-- Laws of a node's check: what its outcome says of the two tests that it makes.
use mathlib.Core.Path.{◌≡◌, refl, ◌∙◌}
use mathlib.Core.List.{List}
use mathlib.Core.Bool.{Bool, true, false, cond, not}
use Prim.Native.Nat.{ℕ}
use Rattle.std.specs.Prelude.{Result, Ok, Err}
use Rattle.std.specs.Result.{result_eq}
use Rattle.format.specs.Format.{field}
use Rattle.format.specs.Steps.{Stores}
use Rattle.format.proofs.Store.{stores-field}
use Rattle.format.specs.declared.Stopped.{Stopped}
use Rattle.refusal.specs.declared.Refusal.{Refusal}

-- the outcome of the test where a node may stand, and that of the lists that it compares
abbrev pub outcome : Bool → Bool → Result (Unit {0}) Refusal
outcome stands agree = cond stands (cond agree (Ok tt) (Err Refusal.Lists)) (Err Refusal.Node)

-- it is another outcome than `Node` exactly where the node may stand there
not-node : (eu : Unit {0} → Unit {0} → Bool) (er : Refusal → Refusal → Bool) (stands agree : Bool) → er Refusal.Node Refusal.Node ≡ true → er Refusal.Lists Refusal.Node ≡ false
    → not (result_eq eu er (outcome stands agree) (Err Refusal.Node)) ≡ stands
not-node eu er true true e d = refl
not-node eu er true false e d = rw d refl
not-node eu er false agree e d = rw e refl

-- so its field is stored by the test where it may stand
pub node-field : (t : ℕ → Bool) (x : ℕ) (agree : Bool) (eu : Unit {0} → Unit {0} → Bool) (er : Refusal → Refusal → Bool) {checked : Result (Unit {0}) Refusal} {b : Bool} {o o' : List ℕ} {p : ℕ}
    {r : Result ℕ (Stopped Refusal)}
    → checked ≡ outcome (t x) agree
    → b ≡ not (result_eq eu er checked (Err Refusal.Node))
    → er Refusal.Node Refusal.Node ≡ true
    → er Refusal.Lists Refusal.Node ≡ false
    → Stores (field 20 (λ _. b) 8) x o o' p r
    → Stores (field 20 t 8) x o o' p r
node-field t x agree eu er e d same other s = stores-field 20 t 8 x (d ∙ rw e (not-node eu er (t x) agree same other)) s

pub outcome-ok : (agree : Bool) (u : Unit {0}) → Ok u ≡ outcome true agree → agree ≡ true
outcome-ok true u e = refl
outcome-ok false u e = absurd cc

pub outcome-err : (agree : Bool) (refusal : Refusal) → Err refusal ≡ outcome true agree → (agree ≡ false) × (refusal ≡ Refusal.Lists)
outcome-err true refusal e = absurd cc
outcome-err false refusal e = (refl, cc)
