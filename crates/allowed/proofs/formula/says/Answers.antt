-- `allowed::says` meets its contract: the nodes of formula f, and none past the last formula.
use mathlib.Core.Path.{sym, ap, ◌∙◌}
use Prim.Native.Nat.{ℕ}
use native.Mathlib.Omega.{arith}
use Rattle.policy.specs.Rules.{lists_of, nodes_of}
use Rattle.formulas.specs.Meaning.{holds}
use Rattle.allowed.proofs.Laws.{says_at, says_none}
use Rattle.allowed.proofs.formula.says.Goals as goal

pub returns-then-f-rules : goal.returns-then-f-rules
returns-then-f-rules c =
    let a = c.args in
    c.holds.ensures
    ∙ ap (λ (n : ℕ). holds (lists_of a.rules.classes) a.holders (nodes_of a.rules.nodes a.f n)) c.get_or.ensures
    ∙ sym (says_at a.rules a.f a.holders (omega arith))

pub returns-else-f-rules : goal.returns-else-f-rules
returns-else-f-rules c = let none = says_none c.args.rules c.args.f c.args.holders (omega arith) in search (arith, none)
