-- `reader::read_parts` meets its contract: the six parts one after another are the format's, and the counts that the rules keep are the head's.
use mathlib.Core.Path.{◌≡◌, refl, sym, ap}
use mathlib.Core.List.{List, [], ◌++◌}
use Prim.Native.Nat.{ℕ, ◌+◌, ◌≤◌}
use native.Mathlib.Omega.{arith}
use lib.ListN.{length, drop, replicate, get_or-append}
use Rattle.std.specs.Prelude.{Result, Ok}
use Rattle.std.proofs.lemmas.List.{length-take-le}
use Rattle.bits.proofs.Packed.{tab-ext}
use Rattle.refusal.specs.declared.Refusal.{Refusal}
use Rattle.format.specs.Format.{rows}
use Rattle.format.specs.Reads.{Reads}
use Rattle.format.specs.declared.file_reader.FileReader.{FileReader}
use Rattle.format.proofs.Chain.{pair-stops, pair-goes, via-reads, refused, shown}
use Rattle.policy.specs.Policy.{Lists}
use Rattle.policy.specs.File.{formula_format, policy_format}
use Rattle.policy.specs.Rules.{lists_of, nodes_of, formulas_of, policy_of}
use Rattle.policy.specs.declared.Rules.{Rules}
use Rattle.reader_head.specs.Parts.{head_of}
use Rattle.reader.proofs.Counted.{under_head, read-counted}
use Rattle.reader.proofs.read_parts.Goals as goal

-- the lengths that count are in front
formulas-front : (nodes front back : List ℕ) (m n : ℕ) → m ≡ n → n ≤ length front → formulas_of nodes (front ++ back) m ≡ formulas_of nodes front n
unfolding formulas_of
formulas-front nodes front back m n e h =
    rw e (tab-ext _ _ 0 n (λ k l. ap (nodes_of nodes k) (get_or-append front back 0 k (omega arith))))

-- the formulas, where their lengths were stored in front of others
formulas-read : {r r' : FileReader} {o : Result (Unit {0}) Refusal} (lists : Lists) (m n : ℕ) (nodes front back : List ℕ) → n ≡ m → n ≤ length front
    → Reads (rows n (λ l. formula_format lists (length l))) 15456 (λ _. formulas_of nodes front n) r r' o
    → Reads (rows m (λ l. formula_format lists (length l))) 15456 (λ _. formulas_of nodes (front ++ back) m) r r' o
formulas-read lists m n nodes front back e room h = rw (formulas-front nodes front back m n (sym e) room, ← e) h

pub returns-in_err-head : goal.returns-in_err-head
unfolding policy_format head_of lists_of
returns-in_err-head c = record { reads = refused _ c.from_residual.result c.from_residual.ensures.1 (via-reads _ _ _ (pair-stops _ _ c.in_err-head.ensures.reads)) (omega arith) }

pub returns-in_err-classes : goal.returns-in_err-classes
unfolding policy_format head_of lists_of
returns-in_err-classes c = record { reads = refused _ c.from_residual-in_err-classes.result c.from_residual-in_err-classes.ensures.1 (via-reads _ _ _ (pair-goes _ _ c.in_ok-head.ensures.reads (pair-stops _ _ c.in_err-classes.ensures.reads))) (omega arith) }

pub returns-in_err-users : goal.returns-in_err-users
unfolding policy_format head_of lists_of
returns-in_err-users c = record { reads = refused _ c.from_residual-in_err-users.result c.from_residual-in_err-users.ensures.1 (via-reads _ _ _ (pair-goes _ _ c.in_ok-head.ensures.reads (pair-goes _ _ c.in_ok-classes.ensures.reads (pair-stops _ _ c.in_err-users.ensures.reads)))) (omega arith) }

pub returns-in_err-sessions : goal.returns-in_err-sessions
unfolding policy_format head_of lists_of
returns-in_err-sessions c = record { reads = refused _ c.from_residual-in_err-sessions.result c.from_residual-in_err-sessions.ensures.1 (via-reads _ _ _ (pair-goes _ _ c.in_ok-head.ensures.reads (pair-goes _ _ c.in_ok-classes.ensures.reads (pair-goes _ _ c.in_ok-users.ensures.reads (pair-stops _ _ c.in_err-sessions.ensures.reads))))) (omega arith) }

pub returns-in_err-items : goal.returns-in_err-items
unfolding policy_format head_of lists_of
returns-in_err-items c = record { reads = refused _ c.from_residual-in_err-items.result c.from_residual-in_err-items.ensures.1 (via-reads _ _ _ (pair-goes _ _ c.in_ok-head.ensures.reads (pair-goes _ _ c.in_ok-classes.ensures.reads (pair-goes _ _ c.in_ok-users.ensures.reads (pair-goes _ _ c.in_ok-sessions.ensures.reads (pair-stops _ _ c.in_err-items.ensures.reads)))))) (omega arith) }

pub returns-in_err-read_formulas : goal.returns-in_err-read_formulas
unfolding policy_format head_of lists_of
returns-in_err-read_formulas c =
    let n = length-take-le (4 + c.in_ok-head.head.permissions) (replicate 12 0) (omega (arith, c.in_ok-head.head.permissions_range)) in
    let formulas = formulas-read _ _ _ _ _ [] n (omega (arith, c.read_formulas.auto.lengths)) c.in_err-read_formulas.ensures.reads in
    record { reads = refused _ c.from_residual-in_err-read_formulas.result c.from_residual-in_err-read_formulas.ensures.1 (via-reads _ _ _ (pair-goes _ _ c.in_ok-head.ensures.reads (pair-goes _ _ c.in_ok-classes.ensures.reads (pair-goes _ _ c.in_ok-users.ensures.reads (pair-goes _ _ c.in_ok-sessions.ensures.reads (pair-goes _ _ c.in_ok-items.ensures.reads formulas)))))) (omega arith) }

-- the rules by themselves, or beside what was read
beside : {r : Rules} {old new : FileReader} {most : ℕ} → Reads policy_format most policy_of old new (Ok r) → Reads policy_format most (λ _. policy_of r) old new (Ok (tt {0}))
beside x = record { answer = x.answer; source = x.source; near = x.near }

pub returns : goal.returns
unfolding policy_format head_of lists_of under_head
returns c =
    let n = length-take-le (4 + c.in_ok-head.head.permissions) (replicate 12 0) (omega (arith, c.in_ok-head.head.permissions_range)) in
    let formulas = formulas-read _ _ _ _ _ (drop (4 + c.in_ok-head.head.permissions) (replicate 12 0)) n (omega (arith, c.read_formulas.auto.lengths)) c.in_ok-read_formulas.ensures.reads in
    record {
      reads = beside (read-counted c.in_ok-head.head _ c.in_ok-users.ensures.all c.in_ok-sessions.ensures.all c.in_ok-items.ensures.all refl _
          (shown _ _ (via-reads _ _ _ (pair-goes _ _ c.in_ok-head.ensures.reads (pair-goes _ _ c.in_ok-classes.ensures.reads (pair-goes _ _ c.in_ok-users.ensures.reads (pair-goes _ _ c.in_ok-sessions.ensures.reads (pair-goes _ _ c.in_ok-items.ensures.reads formulas)))))) refl (omega arith)));
    }
