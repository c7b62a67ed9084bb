-- `policy::nodes::check_node` meets its contract: the operator and what its operands name decide. Assumes nothing.
use mathlib.Core.Path.{◌≡◌, sym, ap, ◌∙◌}
use Prim.Native.Nat.{ℕ, ◌<◌, ◌≤◌}
use native.Mathlib.Omega.{arith}
use Rattle.std.proofs.lemmas.Bool.Decides.{nat_tests}
use Rattle.policy.specs.Nodes.{op_of, first_of, second_of}
use Rattle.policy.specs.Operands.{operand_of, judged_operands}
use Rattle.policy.specs.Operators.{number_of_comparison}
use Rattle.policy.specs.Rules.{lists_of}
use Rattle.policy.proofs.OperandLaws.{answer-constant, answer-not, answer-pair, answer-operands, answer-unknown, comparison-number}
use Rattle.policy.proofs.nodes.check_node.Goals as goal
use Rattle.policy.proofs.nodes.check_node.Goals.{then-a-eq0, else-a-eq0, then-a-i, else-a-i, then-a-i-2, else-a-i-2}

pub returns-after-a-eq0 : goal.returns-after-a-eq0
unfolding op_of first_of second_of
returns-after-a-eq0 c =
    let few : op_of c.args.x ≤ 1 = grind arith in
    let answer = answer-constant (lists_of c.args.classes) c.args.f c.args.i c.args.x few in
    elim c.if-a-eq0.branch [ then-a-eq0 w ↦ grind (arith, nat_tests, answer) | else-a-eq0 w ↦ grind (arith, nat_tests, answer) ]

pub returns-after-a-i : goal.returns-after-a-i
unfolding op_of first_of second_of
returns-after-a-i c =
    let few : op_of c.args.x ≡ 2 = grind arith in
    let answer = answer-not (lists_of c.args.classes) c.args.f c.args.i c.args.x few in
    elim c.if-a-i.branch [ then-a-i w ↦ grind (arith, nat_tests, answer) | else-a-i w ↦ grind (arith, nat_tests, answer) ]

pub returns-after-a-i-2 : goal.returns-after-a-i-2
unfolding op_of first_of second_of
returns-after-a-i-2 c =
    let few : (2 < op_of c.args.x) × (op_of c.args.x ≤ 4) = grind arith in
    let answer = answer-pair (lists_of c.args.classes) c.args.f c.args.i c.args.x few.0 few.1 in
    elim c.if-a-i-2.branch [ then-a-i-2 w ↦ grind (arith, nat_tests, answer) | else-a-i-2 w ↦ grind (arith, nat_tests, answer) ]

pub returns-in-Some-Compare : goal.returns-in-Some-Compare
unfolding op_of first_of second_of
returns-in-Some-Compare c =
    let l = lists_of c.args.classes in
    let k = c.in-Some-Compare.comparison in
    let number : op_of c.args.x ≡ number_of_comparison k = grind arith in
    let many : 4 < op_of c.args.x = omega (arith, comparison-number k) in
    let answer = answer-operands l c.args.f c.args.i c.args.x many in
    c.check_operands.ensures
    ∙ ap (λ (n : ℕ). judged_operands n (operand_of l c.args.f (first_of c.args.x)) (operand_of l c.args.f (second_of c.args.x))) (sym number)
    ∙ sym answer

pub returns-in-None : goal.returns-in-None
unfolding op_of
returns-in-None c =
    let unknown : 10 < op_of c.args.x = grind arith in
    sym (answer-unknown (lists_of c.args.classes) c.args.f c.args.i c.args.x (omega arith) unknown)
