-- `formulas::table::constants` meets its contract. The loop's invariant: the places from k on are filled in.
use mathlib.Core.Path.{refl}
use Prim.Native.Nat.{ℕ, ◌-◌}
use native.Mathlib.Omega.{arith}
use Rattle.formulas.proofs.TableLaws.{fill_start, fill-next}
use borrow.Author.Rules.{rules}
use Rattle.formulas.proofs.table.constants.Goals as goal

pub loop-k-init : goal.loop-k-init
loop-k-init c = (search rules, fill_start (λ (i p : ℕ). p) 5 5 c.args.table.now 32 (λ i p l m. absurd (omega arith)))

pub loop-k-preserved : goal.loop-k-preserved
loop-k-preserved c =
    let t = c.loop-k in (
      search rules,
      fill-next (λ (i p : ℕ). p) 5 5 _ t.k (t.k - 1) (t.k - 1) (t.k - 1) _ _ (omega arith) (omega arith) t.invariant.1 (omega arith) (omega arith) (λ _. refl) refl c.place.ensures,
    )
