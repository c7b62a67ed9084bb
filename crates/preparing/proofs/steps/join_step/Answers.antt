-- `preparing::steps::join_step` meets its contract.
use mathlib.Core.Path.{ap₂, ◌∙◌}
use Prim.Native.Nat.{ℕ, ◌+◌, ◌/◌, ◌%◌}
use native.Mathlib.Omega.{arith}
use Rattle.policy.specs.Nodes.{op_of, first_of, second_of}
use Rattle.bitsets.specs.Steps.{step_of}
use Rattle.prepared.proofs.Lists.{ref-few}
use Rattle.preparing.proofs.steps.join_step.Goals as goal

pub step-requires : goal.step-requires
unfolding op_of
step-requires c =
    let a = c.args in
    let p = ref-few a.own (a.node / 256 % 256) a.k in
    let q = ref-few a.own (a.node % 256) a.k in
    (omega arith, omega arith, omega (arith, p, c.row_of-a.ensures), omega (arith, q, c.row_of-b.ensures))

pub returns : goal.returns
unfolding op_of first_of second_of
returns c =
    let a = c.args in
    c.step.ensures ∙ ap₂ (λ (x y : ℕ). step_of (a.node / 65536) (a.own + a.k) x y) c.row_of-a.ensures c.row_of-b.ensures
