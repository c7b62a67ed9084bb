-- `reader::formulas::read_node` meets its contract: the two tests of a node, one after the other, are the format's.
use mathlib.Core.Path.{◌≡◌, refl, sym, ◌∙◌}
use mathlib.Core.Bool.{Bool, true, false, cond}
use Prim.Native.Nat.{ℕ}
use native.Mathlib.Omega.{arith}
use Rattle.std.specs.Prelude.{Result, Ok, Err}
use Rattle.refusal.specs.declared.Refusal.{Refusal}
use Rattle.refusal.specs.Number.{number_of}
use Rattle.format.specs.Format.{field, check}
use Rattle.format.specs.Reads.{any, Reads}
use Rattle.format.specs.declared.file_reader.FileReader.{FileReader}
use Rattle.format.proofs.Chain.{no_view, check-stops, check-holds, check-fails, field-stops, field-holds, field-fails, refused}
use Rattle.policy.specs.Nodes.{node_ok, lists_agree}
use Rattle.policy.specs.File.{node_format}
use Rattle.policy.specs.Rules.{lists_of}
use Rattle.reader.proofs.formulas.read_node.Goals as goal

-- what the two tests say of a node
abbrev judged : Bool → Bool → Result (Unit {0}) Refusal
judged ok agree = cond ok (cond agree (Ok tt) (Err Refusal.Lists)) (Err Refusal.Node)

module _ (t u : ℕ → Bool) {r r' : FileReader} {x : ℕ} (h : Reads (any 20) 20 (λ y. y) r r' (Ok x)) where
  holds : (ok agree : Bool) → t x ≡ ok → u x ≡ agree → judged ok agree ≡ Ok tt → Reads (check (field 20 t 8) u 19) 20 (λ y. y) r r' (Ok x)
  holds true true p q e = check-holds _ u 19 (field-holds 20 t 8 h p) q
  holds true false p q e = cc
  holds false agree p q e = cc

  fails : (ok agree : Bool) (e : Refusal) → t x ≡ ok → u x ≡ agree → judged ok agree ≡ Err e → Reads (check (field 20 t 8) u 19) 20 no_view r r' (Err e)
  unfolding number_of
  fails true true e p q g = cc
  fails true false e p q g = let k : Refusal.Lists ≡ e = cc in rw (← k) (check-fails _ u Refusal.Lists (field-holds 20 t 8 h p) q)
  fails false agree e p q g = let k : Refusal.Node ≡ e = cc in rw (← k) (check-stops _ u 19 (field-fails 20 t Refusal.Node h p))

pub returns-in_err-node : goal.returns-in_err-node
unfolding node_format
returns-in_err-node c = record { reads = refused _ c.from_residual.result c.from_residual.ensures.1 (check-stops _ _ _ (field-stops _ _ _ c.in_err-node.ensures.reads)) (omega arith) }

pub returns-in_err-check_node : goal.returns-in_err-check_node
unfolding node_format
returns-in_err-check_node c =
    let a = c.args in
    let l = lists_of a.classes in
    let r = c.from_residual-in_err-check_node in
    record { reads = refused _ r.result r.ensures.1 (fails (node_ok l a.f a.i) (lists_agree l) c.in_ok-node.ensures.reads _ _ _ refl refl (sym c.check_node.ensures ∙ c.in_err-check_node.was)) (omega arith) }

pub returns : goal.returns
unfolding node_format
returns c =
    let a = c.args in
    let l = lists_of a.classes in
    record { reads = holds (node_ok l a.f a.i) (lists_agree l) c.in_ok-node.ensures.reads _ _ refl refl (sym c.check_node.ensures ∙ c.in_ok-check_node.was) }
